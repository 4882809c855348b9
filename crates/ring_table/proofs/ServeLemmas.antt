-- The steps on the head cache, the correlation counter and the heartbeat keep the rule.
use Rattle.ring_table.specs.{Staged.Bodies, Staged.staged_end, Rule.Kept, ProducerSteps.Mine}
use Rattle.std.proofs.Common.{◌≡◌, ℕ, ◌+◌, ◌%◌, ◌^◌, ◌≤◌, ◌<◌, List, [], ◌∷◌, ◌++◌, true, set, get_or, slice_index, sym, refl, ap, ◌∙◌, subst, length, length-append, get_or-set_other, get_or-set_same, max, arith}
use mathlib.Core.Option.{some}
use Rattle.atomic_table.{specs.Table.keeps, specs.Table.Allows, proofs.Lists.set_again, proofs.Lists.at_last}
use Rattle.ring_layout.specs.Layout.{head_cache_index, correlation_index, heartbeat_index}
use Rattle.ring_table.specs.{Owners.all_of, ServiceSteps.LoadsCache, ServiceSteps.DrawsId, ServiceSteps.LoadsHeartbeat}
use Rattle.ring_table.specs.Views.{Logs, ConsumerView, View, logged, with_producer, with_consumer, with_head, with_draw, with_heartbeat, beaten}
use Rattle.ring_table.proofs.KnowLemmas.{knows_on, knows_served}
use Rattle.ring_table.proofs.StepLemmas.{sole_sees_top, sees_top_after, becomes}
use Rattle.ring_table.proofs.MemoryLemmas.{head_bounds, memory_elsewhere}
use Rattle.ring_table.proofs.ServiceLemmas.{rising_append, times_drawn-more, heartbeats_append, served_draw_more, served_heartbeat_more}
use Rattle.ring_table.proofs.LoadLemmas.{Ok, looked, sees}

module _ (B : Bodies) (C start : ℕ) where
  pub loads_cache : (slots id : ℕ) (me : Mine) → me.0.capacity ≡ C
      → Allows (Ok B C start) slots id me (head_cache_index C) (λ n. n)
      (λ n me'. (me'.1 ≡ me.1) × LoadsCache me.0.capacity me.0 n me'.0 × Logs (head_cache_index C) n me.0 me'.0)
  loads_cache slots id me cap s r wide at small =
      let v : View = me.0 in
      let n : ℕ = slice_index s.words (head_cache_index C) in
      let cache : n ≤ r.consumer.head = r.service.cache in
      let k = r.seated.each id v at in
      let seen = k.head_seen in
      let limit = r.memory.limit in
      let bounds = head_bounds B C start r.lawful s.words r.consumer (all_of r.hist) r.memory in (
        logged (head_cache_index C) n (with_producer (with_head (max v.producer.seen_head n) v.producer) v),
        keeps,
        tt,
        sees B C start s.words s.views r id (head_cache_index C) v at v.producer.seen_tail (max v.producer.seen_head n) _
            (omega arith) k.tail_seen (omega arith),
        (
          refl,
          record {
            view = ap (λ c. logged (head_cache_index c) n
                (with_producer (with_head (max v.producer.seen_head n) v.producer) v)) (sym cap);
            limit = omega arith;
            sole = λ all. let e = sole_sees_top s.views id v
                (staged_end start (all_of r.hist)) r.seated.shares r.seated.latest at all in omega arith;
          },
          refl,
        ),
      )

  pub stores_cache : (slots id value : ℕ) (me : Mine) → value ≤ me.0.producer.seen_head
      → Allows (Ok B C start) slots id me (head_cache_index C) (λ _. value) (λ _ me'. (me'.1 ≡ me.1) × (me'.0 ≡ me.0))
  stores_cache slots id value me le s r wide at small =
      let v : View = me.0 in
      let i : ℕ = head_cache_index C in
      let seen = (r.seated.each id v at).head_seen in
      let wide = r.memory.wide in
      let now : get_or (set s.words i value) i 0 ≡ value = get_or-set_same s.words i value 0 (omega arith) in (
        v,
        keeps,
        tt,
        subst (Kept B C start (set s.words i value)) (sym (set_again s.views id v at)) (record {
          lawful = r.lawful;
          hist = r.hist;
          reader = r.reader;
          consumer = r.consumer;
          drawn = r.drawn;
          memory = memory_elsewhere B C start r.lawful s.words r.consumer (all_of r.hist) r.memory i value (omega arith)
              (λ e. omega arith) (λ e. omega arith) r.consumer.heartbeats;
          service = record {
            cache = omega arith;
            correlation =
                get_or-set_other s.words i (correlation_index C) value 0 (omega arith) ∙ r.service.correlation;
            unnamed = λ j un. get_or-set_other s.words i j value 0 un.not_cache ∙ r.service.unnamed j un;
            heartbeat = r.service.heartbeat ∙ ap some
                (sym (get_or-set_other s.words i (heartbeat_index C) value 0 (omega arith)));
          };
          seated = r.seated;
        }),
        (refl, refl),
      )

  pub draws_id : (slots id : ℕ) (me : Mine) → 0 < me.0.producer.shares
      → Allows (Ok B C start) slots id me (correlation_index C) (λ n. (n + 1) % 2 ^ 64)
      (λ n me'. (me'.1 ≡ me.1) × DrawsId me.0 n me'.0)
  draws_id slots id me rich s r wide at small =
      let v : View = me.0 in
      let i : ℕ = correlation_index C in
      let n : ℕ = slice_index s.words i in
      let k : ℕ = r.drawn in
      let is : n ≡ k % 2 ^ 64 = r.service.correlation in
      let value : ℕ = (n + 1) % 2 ^ 64 in
      let own = r.seated.each id v at in
      let top : ℕ = staged_end start (all_of r.hist) in
      let w : View = with_producer (with_draw k v.producer) v in
      let words_wide = r.memory.wide in
      let cached : get_or (set s.words i value) (head_cache_index C) 0 ≡ get_or s.words (head_cache_index C) 0 =
      get_or-set_other s.words i (head_cache_index C) value 0 (omega arith) in
      let cache = r.service.cache in
      let next : value ≡ (k + 1) % 2 ^ 64 = omega arith in (
        w,
        keeps,
        tt,
        becomes B C start s.words s.views r id v at (set s.words i value) r.hist r.consumer (k + 1) w (record {
          memory = memory_elsewhere B C start r.lawful s.words r.consumer (all_of r.hist) r.memory i value (omega arith)
              (λ e. omega arith) (λ e. omega arith) r.consumer.heartbeats;
          service = record {
            cache = omega arith;
            correlation = get_or-set_same s.words i value 0 (omega arith) ∙ next;
            unnamed = λ j un. get_or-set_other s.words i j value 0 un.not_correlation ∙ r.service.unnamed j un;
            heartbeat = r.service.heartbeat ∙ ap some
                (sym (get_or-set_other s.words i (heartbeat_index C) value 0 (omega arith)));
          };
          steps = record {
            own =
                (let all = served_draw_more k r.consumer.heartbeats
                (v.producer.service ∷ v.producer.joined) own.served in
                knows_served own (k + 1) v.producer.shares w.producer.service v.log rich (
                  record {
                    draws = rising_append 0 k v.producer.service.draws own.served.0.draws;
                    heartbeats = all.0.heartbeats;
                  },
                  all.1,
                ));
            others = λ j u ne f. knows_on f refl (omega arith) (served_draw_more k r.consumer.heartbeats
                (u.producer.service ∷ u.producer.joined) f.served) f.consumes;
            shares = refl;
            outside = λ j ne. refl;
            latest = sees_top_after s.views id v w top top at (λ rich. rich) refl (λ e. e) r.seated.latest;
            drawn = λ x. times_drawn-more x k v.producer;
          };
        }),
        (refl, record { number = k; id = is; view = refl; rising = own.served.0.draws }),
      )

  pub loads_heartbeat : (slots id : ℕ) (me : Mine) → me.0.capacity ≡ C → 0 < me.0.producer.shares
      → Allows (Ok B C start) slots id me (heartbeat_index C) (λ n. n)
      (λ n me'. (me'.1 ≡ me.1) × LoadsHeartbeat me.0.capacity me.0 n me'.0 × Logs (heartbeat_index C) n me.0 me'.0)
  loads_heartbeat slots id me cap rich s r wide at small =
      let v : View = me.0 in
      let i : ℕ = heartbeat_index C in
      let n : ℕ = slice_index s.words i in
      let nth : ℕ = length r.consumer.heartbeats in
      let own = r.seated.each id v at in
      let w : View = logged i n (with_producer (with_heartbeat nth n v.producer) v) in (
        w,
        keeps,
        tt,
        looked B C start s.words s.views r id i v w at
            (knows_served own r.drawn v.producer.shares w.producer.service w.log rich (
              record {
                draws = own.served.0.draws;
                heartbeats =
                    heartbeats_append 0 r.consumer.heartbeats v.producer.service.heartbeats n r.service.heartbeat
                    own.served.0.heartbeats;
              },
              own.served.1,
            )) refl (omega arith) (λ x. refl),
        (
          refl,
          record {
            nth = nth;
            view =
                ap (λ c. logged (heartbeat_index c) n (with_producer (with_heartbeat nth n v.producer) v)) (sym cap);
          },
          refl,
        ),
      )

  pub stores_heartbeat : (slots id value : ℕ) (me : Mine) → me.0.consumes ≡ true
      → Allows (Ok B C start) slots id me (heartbeat_index C) (λ _. value)
      (λ _ me'. (me'.1 ≡ me.1) × (me'.0 ≡ with_consumer (beaten value me.0.consumer) me.0))
  stores_heartbeat slots id value me consumes s r wide at small =
      let v : View = me.0 in
      let i : ℕ = heartbeat_index C in
      let own = r.seated.each id v at in
      let mine = own.consumes consumes in
      let old : List ℕ = r.consumer.heartbeats in
      let now : ConsumerView = beaten value r.consumer in
      let w : View = with_consumer (beaten value v.consumer) v in
      let top : ℕ = staged_end start (all_of r.hist) in
      let cached : get_or (set s.words i value) (head_cache_index C) 0 ≡ get_or s.words (head_cache_index C) 0 =
      get_or-set_other s.words i (head_cache_index C) value 0 (omega arith) in
      let cache = r.service.cache in (
        w,
        keeps,
        tt,
        becomes B C start s.words s.views r id v at (set s.words i value) r.hist now r.drawn w (record {
          memory = memory_elsewhere B C start r.lawful s.words r.consumer (all_of r.hist) r.memory i value (omega arith)
              (λ e. omega arith) (λ e. omega arith) (old ++ value ∷ []);
          service = record {
            cache = omega arith;
            correlation =
                get_or-set_other s.words i (correlation_index C) value 0 (omega arith) ∙ r.service.correlation;
            unnamed = λ j un. get_or-set_other s.words i j value 0 un.not_heartbeat ∙ r.service.unnamed j un;
            heartbeat = at_last (0 ∷ old) value (length (old ++ value ∷ []))
                (omega (arith, length-append {A = ℕ} old (value ∷ [])))
                ∙ ap some (sym (get_or-set_same s.words i value 0 (omega arith)));
          };
          steps = record {
            own = knows_on own refl (omega arith)
                (served_heartbeat_more r.drawn old value (v.producer.service ∷ v.producer.joined) own.served)
                (λ _. (mine.0, ap (beaten value) mine.1));
            others = λ j u ne f. knows_on f refl (omega arith)
                (served_heartbeat_more r.drawn old value (u.producer.service ∷ u.producer.joined) f.served)
                (λ z. absurd (ne ((f.consumes z).0 ∙ sym mine.0)));
            shares = refl;
            outside = λ j ne. refl;
            latest = sees_top_after s.views id v w top top at (λ rich. rich) refl (λ e. e) r.seated.latest;
            drawn = λ x. refl;
          };
        }),
        (refl, refl),
      )
