-- The moves of the tail keep the rule.
use Rattle.ring_table.specs.{Staged.Bodies, Staged.StagedClaim, Staged.claim_end, Staged.staged_end, Rule.Kept}
use Rattle.std.proofs.Common.{◌≡◌, ◌≢◌, ℕ, ◌+◌, ◌/◌, ◌^◌, ◌≤◌, ◌<◌, ℤ, FitsSigned, List, [], ◌∷◌, ◌++◌, eqb, set, slice_index, sym, refl, ap, ◌∙◌, subst, length, arith, w32}
use Rattle.std.proofs.{Math.Option.some, Math.Option.some-injective, Math.ListN.get_elem?, lemmas.List.length-replicate}
use prog.Atomic.{either}
use Rattle.atomic_table.{specs.Table.keeps, specs.Table.Allows, proofs.Lists.exchanged, proofs.Lists.set_here}
use Rattle.ring_layout.specs.{History.IsMessage, History.span, Places.next_place, Places.end_after, Headers.open_header}
use Rattle.ring_layout.specs.{Layout.tail_index, Refusals.all_shares}
use Rattle.ring_layout.proofs.{PlaceLemmas.next_le, ListLemmas.at_below}
use Rattle.ring_table.proofs.{HeaderWords.one_type, HeaderWords.one_length, StagedWords.staged_word-fresh}
use Rattle.ring_table.specs.{Changes.blank, Changes.moved_claim, Owners.OwnedHistory, Owners.all_of}
use Rattle.ring_table.specs.Views.{Logs, View, Wanted, logged, with_producer, with_tail, with_claim}
use Rattle.ring_table.specs.ProducerSteps.{Mine, IsClaimable, MovesTail, MovesOwnTail}
use Rattle.ring_table.proofs.HistoryLemmas.{staged_end-append, owned_by-append, owned_by-append_other}
use Rattle.ring_table.proofs.{KnowLemmas.knows_after, MemoryLemmas.memory_appended, MemoryLemmas.service_elsewhere}
use Rattle.ring_table.proofs.StepLemmas.{sole_sees_top, becomes}
use Rattle.ring_table.proofs.LoadLemmas.{Ok, May, sees, end_below, tail_position}

-- a header gives what is wanted back
one_wanted : (C : ℕ) (a b : Wanted) → IsMessage C (blank a.type_id a.len) → C ≤ 2 ^ 24 → FitsSigned w32 b.type_id
    → 8 + b.len < 2 ^ 31 → open_header a.type_id a.len ≡ open_header b.type_id b.len → a ≡ b
one_wanted C a b lawful big fits small same =
    let zeros : length (blank a.type_id a.len).body ≡ a.len = length-replicate a.len 0 in
    let short : a.len ≤ C / 8 = omega (arith, lawful.short) in
    let types = one_type a.type_id a.len b.type_id b.len lawful.type_fits (omega arith) fits small same in
    let lengths = one_length a.type_id a.len b.type_id b.len (omega arith) small same in
    λ i. record { type_id = types i; len = lengths i }

module _ (B : Bodies) (C start : ℕ) where
  -- a claim of n bytes joins the history at its end, the tail
  appends : (words : List ℕ) (views : List View) (r : Kept B C start words views) (id : ℕ) (v : View)
      → get_elem? views id ≡ some v → (type_id : ℤ) (n old new : ℕ) → old ≡ staged_end start (all_of r.hist)
      → 0 < v.producer.shares → IsClaimable C old new type_id n v.producer.seen_head
      → Kept B C start (set words (tail_index C) new) (set views id (with_claim (moved_claim C old type_id n) new v))
  appends words views r id v at type_id n old new old_is rich claimable =
      let h : OwnedHistory = r.hist in
      let c : StagedClaim = moved_claim C old type_id n in
      let x : ℕ × StagedClaim = (id, c) in
      let w : View = with_claim c new v in
      let k = r.seated.each id v at in
      let top : ℕ = staged_end start (all_of h) in
      let long : length c.message.body ≡ n = length-replicate n 0 in
      let new_is : new ≡ claim_end c = claimable.new_tail ∙ ap (λ z. next_place C old (span n) + span z) (sym long) in
      let tops : staged_end start (all_of (h ++ x ∷ [])) ≡ new = staged_end-append start h x ∙ sym new_is in
      let grows : top ≤ new = (let on = next_le C old (span n) in let tail = claimable.new_tail in omega arith) in
      let head_seen = k.head_seen in
      let limit = claimable.limit in
      let tail_seen : v.producer.seen_tail ≤ top = k.tail_seen in
      becomes B C start words views r id v at (set words (tail_index C) new) (h ++ x ∷ []) r.consumer r.drawn w (record {
        memory = memory_appended B C start r.lawful words r.consumer h r.memory x new
            (record {
              lies = record {
                from = old_is;
                place = ap (λ z. next_place C old (span z)) (sym long)
                    ∙ ap (λ e. next_place C e (span (length c.message.body))) old_is;
                message = claimable.message;
              };
              ends = new_is;
              silent = λ p p8. staged_word-fresh B C old type_id n p;
            })
            limit (omega arith);
        service = service_elsewhere B C start r.lawful words r.consumer r.drawn r.service (tail_index C) new (record {
          cache = λ e. omega arith;
          correlation = λ e. omega arith;
          heartbeat = λ e. omega arith;
          unnamed = λ j un. un.not_tail;
        }) r.consumer (record { rises = omega arith; same = refl });
        steps = record {
          own = record {
            claims = ap (λ l. l ++ c ∷ []) k.claims ∙ sym (owned_by-append id h c);
            tail_seen = subst (λ z. new ≤ z) (sym tops) (omega arith);
            head_seen = k.head_seen;
            idle = λ none. absurd (omega arith);
            served = k.served;
            consumes = k.consumes;
          };
          others = λ j u ne f. knows_after f (omega arith) (owned_by-append_other j id h c ne);
          shares = refl;
          outside = λ j ne. owned_by-append_other j id h c ne;
          latest = record {
            seat = id;
            view = w;
            there = set_here views id w (at_below views id v at);
            rich = rich;
            sees = sym tops;
          };
          drawn = λ x. refl;
        };
      })

  pub moves_tail : (slots id : ℕ) (me : Mine) → me.0.capacity ≡ C → (old new : ℕ) (wanted : Wanted)
      → (header : ℕ) → header ≡ open_header wanted.type_id wanted.len
      → 0 < me.0.producer.shares → IsClaimable C old new wanted.type_id wanted.len me.0.producer.seen_head
      → Allows (Ok B C start) slots id me (tail_index C) (λ n. either (eqb n old) new n)
      (λ n me'. (me'.1 ≡ me.1) × ((said : Wanted) → FitsSigned w32 said.type_id → 8 + said.len < 2 ^ 31
      → some header ≡ some (open_header said.type_id said.len)
      → MovesTail me.0.capacity old new said me.0 n me'.0) × (n ≢ old → Logs (tail_index C) n me.0 me'.0))
  moves_tail slots id me cap old new wanted header header_is rich claimable s r wide at small =
      let v : View = me.0 in
      let n : ℕ = slice_index s.words (tail_index C) in
      let top : ℕ = staged_end start (all_of r.hist) in
      let is : n ≡ top = r.memory.tail_is in
      let k = r.seated.each id v at in
      let position = tail_position B C start s r in
      let told : Mine → Type 0 = λ me'. (me'.1 ≡ me.1)
      × ((said : Wanted) → FitsSigned w32 said.type_id → 8 + said.len < 2 ^ 31
      → some header ≡ some (open_header said.type_id said.len) → MovesTail me.0.capacity old new said me.0 n me'.0)
      × (n ≢ old → Logs (tail_index C) n me.0 me'.0) in
      let at_sole = λ (all : v.producer.shares ≡ all_shares). is
      ∙ sym (sole_sees_top s.views id v top r.seated.shares r.seated.latest at all) in
      exchanged n old new (May B C start s (tail_index C) id me told)
      (λ hit. (
        with_claim (moved_claim C old wanted.type_id wanted.len) new v,
        keeps,
        tt,
        appends s.words s.views r id v at wanted.type_id wanted.len old new (sym hit ∙ is) rich claimable,
        (
          refl,
          λ said fits small' same. let e : wanted ≡ said = one_wanted C wanted said claimable.message r.lawful.capacity.most
              fits small' (sym header_is ∙ some-injective header (open_header said.type_id said.len) same) in record {
                hit = λ _ i. with_claim (moved_claim (sym cap i) old (e i).type_id (e i).len) new v;
                behind = λ _. end_below B C start s.words s.views r id v at old (sym hit ∙ is);
                miss = λ other. absurd (other hit);
                later = omega arith;
                position = position;
                sole = at_sole;
              },
          λ other. absurd (other hit),
        ),
      ))
      (λ missed. (
        logged (tail_index C) n (with_producer (with_tail n v.producer) v),
        keeps,
        tt,
        sees B C start s.words s.views r id (tail_index C) v at n v.producer.seen_head _ (omega arith)
            (omega arith) k.head_seen,
        (
          refl,
          λ said fits small' same. record {
            hit = λ hit. absurd (missed hit);
            behind = λ hit. absurd (missed hit);
            miss = λ _. ap (λ c. logged (tail_index c) n (with_producer (with_tail n v.producer) v)) (sym cap);
            later = omega arith;
            position = position;
            sole = at_sole;
          },
          λ _. refl,
        ),
      ))

  -- a sole producer knows the tail, so it may store it
  pub moves_own_tail : (slots id : ℕ) (me : Mine) → me.0.capacity ≡ C → (new : ℕ) (type_id : ℤ) (n : ℕ)
      → me.0.producer.shares ≡ all_shares → IsClaimable C me.0.producer.seen_tail new type_id n me.0.producer.seen_head
      → Allows (Ok B C start) slots id me (tail_index C) (λ _. new)
      (λ _ me'. (me'.1 ≡ me.1) × MovesOwnTail me.0.capacity new me.0 me'.0)
  moves_own_tail slots id me cap new type_id n all claimable s r wide at small =
      let v : View = me.0 in
      let old : ℕ = v.producer.seen_tail in
      let old_is =
      sole_sees_top s.views id v (staged_end start (all_of r.hist)) r.seated.shares r.seated.latest at all in (
        with_claim (moved_claim C old type_id n) new v,
        keeps,
        tt,
        appends s.words s.views r id v at type_id n old new old_is (omega arith) claimable,
        (
          refl,
          record {
            type_id = type_id;
            len = n;
            message = subst (λ c. IsMessage c (blank type_id n)) (sym cap) claimable.message;
            new_tail = subst (λ c. new ≡ end_after c old (span n)) (sym cap) claimable.new_tail;
            view = λ i. with_claim (moved_claim (sym cap i) old type_id n) new v;
            behind = end_below B C start s.words s.views r id v at old old_is;
          },
        ),
      )
