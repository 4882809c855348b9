-- Seats that are cut in two, or put together.
use Rattle.ring_table.specs.{Staged.Bodies, Staged.staged_end, Services.Service, Services.times, Services.times_drawn}
use Rattle.std.proofs.Common.{◌≡◌, ◌≢◌, ℕ, ◌+◌, ◌-◌, ◌≤◌, ◌<◌, List, [], ◌∷◌, ◌++◌, true, false, set, sym, refl, ap, ◌∙◌, subst, ⊎_elim, length, length-set, length-append, max, arith}
use Rattle.std.proofs.Math.{Option.some, Logic.dite, Decide.ℕ_discrete, ListN.get_elem?}
use Rattle.std.proofs.lemmas.Bool.{false≢true}
use Rattle.atomic_table.specs.Table.{State, Splits, Joins}
use Rattle.atomic_table.proofs.Lists.{at_set, at_longer, set_here, set_else}
use Rattle.ring_table.specs.Owners.{OwnedHistory, all_of, owned_by, interleaved, handed_over}
use Rattle.ring_layout.specs.Lists.{total}
use Rattle.ring_table.specs.Views.{ConsumerView, View, without_consumer, consumer_alone, with_consumer_of, without_share, producer_alone, with_producer_of, spent}
use Rattle.ring_table.specs.Rule.{IsMemory, Knows, IsSeated, Kept, shares_of}
use Rattle.ring_table.proofs.OwnerLemmas.{all_of-handed_over, owned_by-handed_over, owned_by-handed_away, owned_by-handed_over_other}
use Rattle.ring_table.proofs.{ServiceLemmas.served_append, StepLemmas.one_view, StepLemmas.sees_top_after}
use Rattle.ring_layout.proofs.{Sums.total-append, ListLemmas.at_below, ListLemmas.each_set}
use Rattle.ring_table.proofs.{ListLemmas.at_more, SplitSums.total-parted, SplitSums.total-met}
use Rattle.ring_table.proofs.KnowLemmas.{knows_after, knows_new, knows_on, knows_served}

-- the left one has what v had but for shares of the right one, which has drawn nothing
record CutsIn (v left right : View) : Type 0 where
  pub shares : left.producer.shares + right.producer.shares ≡ v.producer.shares
  pub some : 0 < v.producer.shares → 0 < left.producer.shares
  pub seen : left.producer.seen_tail ≡ v.producer.seen_tail
  pub drawn : (x : ℕ) → times_drawn x left.producer ≡ times_drawn x v.producer
  pub drawn_none : (x : ℕ) → times_drawn x right.producer ≡ 0

-- what two seats had, the one has that they become
record Meet (top : ℕ) (v w both : View) : Type 0 where
  pub shares : both.producer.shares ≡ v.producer.shares + w.producer.shares
  pub drawn : (x : ℕ) → times_drawn x both.producer ≡ times_drawn x v.producer + times_drawn x w.producer
  pub first : v.producer.seen_tail ≡ top → both.producer.seen_tail ≡ top
  pub second : 0 < w.producer.shares → w.producer.seen_tail ≡ top → both.producer.seen_tail ≡ top

-- v is at id, and w at another place
record AreTwo (views : List View) (id other : ℕ) (v w both : View) : Type 0 where
  pub one : get_elem? views id ≡ some v
  pub apart : other ≢ id
  pub two : get_elem? (set views id both) other ≡ some w

module _ (top : ℕ) (hist : OwnedHistory) (reader : ℕ) (consumer : ConsumerView) (n : ℕ) where
  -- what two seats know that one was cut into, and what all others know then
  record KnowCut (views : List View) (id : ℕ) (left right : View) (reader' : ℕ) : Type 0 where
    pub left_knows : Knows top hist reader' consumer n id left
    pub right_knows : Knows top hist reader' consumer n (length views) right
    pub others : (j : ℕ) (u : View) → j ≢ id → Knows top hist reader consumer n j u → Knows top hist reader' consumer
        n j u

  -- one seat becomes two, which share what it had
  parted : (views : List View) → IsSeated top hist reader consumer n views
      → (id : ℕ) (v left right : View) (reader' : ℕ) → get_elem? views id ≡ some v → CutsIn v left right
      → KnowCut views id left right reader' → IsSeated top hist reader' consumer n (set views id left ++ right ∷ [])
  parted views s id v left right reader' at cut know =
      record {
        each = λ j u e. ⊎_elim
            (λ was. each_set (Knows top hist reader' consumer n) views id left know.left_knows
            (λ k v ne e. know.others k v ne (s.each k v e)) j u was)
            (λ (t : (j ≡ length (set views id left)) × (right ≡ u)). subst
            (λ (z : ℕ × View). Knows top hist reader' consumer n z.0 z.1)
            (λ i. (sym (t.0 ∙ length-set views id left) i, t.1 i)) know.right_knows)
            (at_more (set views id left) right u j e);
        nobody = λ j past. let a = length-append (set views id left) (right ∷ []) in let b =
            length-set views id left in s.nobody j (omega arith);
        shares = total-parted shares_of views id v left right at cut.shares ∙ s.shares;
        latest =
            (let l = sees_top_after views id v left top top at cut.some refl (λ e. cut.seen ∙ e) s.latest in
            record {
              seat = l.seat;
              view = l.view;
              there = at_longer (set views id left) (right ∷ []) l.seat l.view l.there;
              rich = l.rich;
              sees = l.sees;
            });
        once = λ x.
            let l : ℕ = times_drawn x left.producer in
            let r : ℕ = times_drawn x right.producer in
            let w : ℕ = times_drawn x v.producer in
            let same : l ≡ w = cut.drawn x in
            let none : r ≡ 0 = cut.drawn_none x in
            let as_before : l + r ≡ w = omega arith in
            total-parted (λ (z : View). times_drawn x z.producer) views id v left right at as_before ∙ s.once x;
      }

  -- the other seat, as it was
  other_was : (views : List View) (id other : ℕ) (both w : View) → other ≢ id
      → get_elem? (set views id both) other ≡ some w → get_elem? views other ≡ some w
  other_was views id other both w ne there =
      ⊎_elim (λ (t : (other ≡ id) × (both ≡ w)). absurd (ne t.0))
      (λ (t : (other ≢ id) × (get_elem? views other ≡ some w)). t.1) (at_set views id other both w there)

  -- what the seats know that two were put together into, and what all others know then
  record KnowMet (views : List View) (id other : ℕ) (both : View) (top' : ℕ) (hist' : OwnedHistory)
      (reader' : ℕ) : Type 0 where
    pub tops : top' ≡ top
    pub both_knows : Knows top' hist' reader' consumer n id both
    pub spent_knows : Knows top' hist' reader' consumer n other spent
    pub others : (j : ℕ) (u : View) → j ≢ id → j ≢ other → Knows top hist reader consumer n j u
        → Knows top' hist' reader' consumer n j u
    pub outside : (j : ℕ) → length views ≤ j → owned_by j hist' ≡ owned_by j hist

  -- two seats become one, and the history goes on as hist'
  met : (views : List View) → IsSeated top hist reader consumer n views
      → (id other : ℕ) (v w both : View) (top' : ℕ) (hist' : OwnedHistory) (reader' : ℕ)
      → AreTwo views id other v w both → Meet top v w both → KnowMet views id other both top' hist' reader'
      → IsSeated top' hist' reader' consumer n (set (set views id both) other spent)
  met views s id other v w both top' hist' reader' are meet know =
      let at = are.one in
      let ne = are.apart in
      let there = are.two in
      let tops = know.tops in
      let sum = meet.shares in record {
        each = λ j u e. ⊎_elim
            (λ (t : (j ≡ other) × (spent ≡ u)). subst (λ (z : ℕ × View). Knows top' hist' reader' consumer n z.0 z.1)
            (λ i. (sym t.0 i, t.1 i)) know.spent_knows)
            (λ (t : (j ≢ other) × (get_elem? (set views id both) j ≡ some u)). ⊎_elim
            (λ (t' : (j ≡ id) × (both ≡ u)). subst (λ (z : ℕ × View). Knows top' hist' reader' consumer n z.0 z.1)
            (λ i. (sym t'.0 i, t'.1 i)) know.both_knows)
            (λ (t' : (j ≢ id) × (get_elem? views j ≡ some u)). know.others j u t'.0 t.0 (s.each j u t'.1))
            (at_set views id j both u t.1))
            (at_set (set views id both) other j spent u e);
        nobody = λ j past. let a = length-set (set views id both) other spent in let b =
            length-set views id both in let past' : length views ≤ j =
            omega arith in know.outside j past' ∙ s.nobody j past';
        shares = total-met shares_of views id other v w both spent at there sum refl ∙ s.shares;
        latest =
            (let l = sees_top_after views id v both top top' at (λ rich. omega arith) tops
            (λ e. meet.first e ∙ sym tops)
            s.latest in
            dite (ℕ_discrete l.seat other)
            (λ e.
            let is : l.view ≡ w = one_view (set views id both) l.seat other l.view w l.there there e in
            let rich = subst (λ (z : View). 0 < z.producer.shares) is l.rich in
            record {
              seat = id;
              view = both;
              there = set_else (set views id both) other id spent (λ e. ne (sym e))
                  ∙ set_here views id both (at_below views id v at);
              rich = omega arith;
              sees = meet.second rich (ap (λ (z : View). z.producer.seen_tail) (sym is) ∙ l.sees ∙ tops) ∙ sym tops;
            })
            (λ not_other. record {
              seat = l.seat;
              view = l.view;
              there = set_else (set views id both) other l.seat spent not_other ∙ l.there;
              rich = l.rich;
              sees = l.sees;
            }));
        once = λ x. let f = λ (z : View). times_drawn x z.producer in
            total-met f views id other v w both spent at there (meet.drawn x) refl ∙ s.once x;
      }

module _ (B : Bodies) (C start : ℕ) where
  reseat : (words : List ℕ) (views views' : List View) (r : Kept B C start words views) (reader : ℕ)
      → IsSeated (staged_end start (all_of r.hist)) r.hist reader r.consumer r.drawn views' → Kept B C start words views'
  reseat words views views' r reader seated =
      record {
        lawful = r.lawful;
        hist = r.hist;
        reader = reader;
        consumer = r.consumer;
        drawn = r.drawn;
        memory =
            r.memory;
        service = r.service;
        seated = seated;
      }

  pub splits_consumer : (id : ℕ) (v : View) → v.consumes ≡ true
      → Splits (λ (s : State ℕ View). Kept B C start s.words s.views) id v (without_consumer v) (consumer_alone v)
  splits_consumer id v consumes s r at =
      let own = r.seated.each id v at in
      let mine = own.consumes consumes in
      let shares : ℕ = v.producer.shares in
      let sum : shares + 0 ≡ shares = omega arith in
      reseat s.words s.views _ r (length s.views)
      (parted (staged_end start (all_of r.hist)) r.hist r.reader r.consumer r.drawn s.views r.seated id v
      (without_consumer v) (consumer_alone v) (length s.views) at
      (record { shares = sum; some = λ rich. rich; seen = refl; drawn = λ x. refl; drawn_none = λ x. refl })
      (record {
        left_knows = knows_on own refl (omega arith) own.served (λ e. absurd (false≢true e));
        right_knows = knows_new 0 v.producer.seen_tail v.producer.seen_head refl
            (r.seated.nobody (length s.views) (omega arith)) (own.tail_seen, own.head_seen) (λ _. (refl, mine.1));
        others = λ j u ne f.
            knows_on f refl (omega arith) f.served (λ e. absurd (ne ((f.consumes e).0 ∙ sym mine.0)));
      }))

  pub splits_producer : (id : ℕ) (v : View) → 1 < v.producer.shares
      → Splits (λ (s : State ℕ View). Kept B C start s.words s.views) id v (without_share v) (producer_alone v)
  splits_producer id v rich s r at =
      let own = r.seated.each id v at in
      let shares : ℕ = v.producer.shares in
      let sum : shares - 1 + 1 ≡ shares = omega arith in
      let left : 0 < shares - 1 = omega arith in
      reseat s.words s.views _ r r.reader (parted
      (staged_end start (all_of r.hist)) r.hist r.reader r.consumer r.drawn s.views r.seated id v (without_share v)
      (producer_alone v) r.reader at
      (record { shares = sum; some = λ _. left; seen = refl; drawn = λ x. refl; drawn_none = λ x. refl })
      (record {
        left_knows = knows_served own r.drawn (shares - 1) v.producer.service v.log left own.served;
        right_knows = knows_new 1 v.producer.seen_tail v.producer.seen_head refl
            (r.seated.nobody (length s.views) (omega arith)) (own.tail_seen, own.head_seen)
            (λ e. absurd (false≢true e));
        others = λ j u ne f. f;
      }))

  pub joins_consumer : (id : ℕ) (v : View) (other : ℕ) (w : View) → w.consumes ≡ true → w.producer.shares ≡ 0
      → Joins (λ (s : State ℕ View). Kept B C start s.words s.views) id v other w (with_consumer_of v w) spent
  joins_consumer id v other w consumes poor s r at ne there =
      let top : ℕ = staged_end start (all_of r.hist) in
      let own = r.seated.each id v at in
      let its = r.seated.each other w (other_was top r.hist r.reader r.consumer r.drawn s.views id other
      (with_consumer_of v w) w ne there) in
      let mine = its.consumes consumes in
      let idle = its.idle poor in
      reseat s.words s.views _ r id (met top r.hist r.reader r.consumer r.drawn s.views r.seated id other v w
      (with_consumer_of v w) top r.hist id (record { one = at; apart = ne; two = there })
      (record {
        shares = omega arith;
        drawn = λ x. let a : ℕ = times_drawn x v.producer in let b : ℕ = times_drawn x w.producer in let none : b ≡ 0 =
            idle.draws x in let done : a ≡ a + b = omega arith in done;
        first = λ e. e;
        second = λ rich e. absurd (omega arith);
      })
      (record {
        tops = refl;
        both_knows = knows_on own refl (omega arith) own.served (λ _. (refl, mine.1));
        spent_knows = knows_new 0 0 0 refl (sym its.claims ∙ idle.claims) (omega arith, omega arith)
            (λ e. absurd (false≢true e));
        others = λ j u a b f.
            knows_on f refl (omega arith) f.served (λ e. absurd (b ((f.consumes e).0 ∙ sym mine.0)));
        outside = λ j past. refl;
      }))

  pub joins_producer : (id : ℕ) (v : View) (other : ℕ) (w : View) → w.consumes ≡ false → 0 < w.producer.shares
      → Joins (λ (s : State ℕ View). Kept B C start s.words s.views) id v other w (with_producer_of v w) spent
  joins_producer id v other w consumes rich s r at ne there =
      let h : OwnedHistory = r.hist in
      let h' : OwnedHistory = handed_over other id h in
      let same = all_of-handed_over other id h in
      let top : ℕ = staged_end start (all_of h) in
      let tops : staged_end start (all_of h') ≡ top = ap (staged_end start) same in
      let own = r.seated.each id v at in
      let was = other_was top h r.reader r.consumer r.drawn s.views id other (with_producer_of v w) w ne there in
      let its = r.seated.each other w was in
      record {
        lawful = r.lawful;
        hist = h';
        reader = r.reader;
        consumer = r.consumer;
        drawn = r.drawn;
        memory = subst (λ l. IsMemory B C start s.words l r.consumer) (sym same) r.memory;
        service = r.service;
        seated = met top h r.reader r.consumer r.drawn s.views r.seated id other v w (with_producer_of v w)
            (staged_end start (all_of h')) h' r.reader (record { one = at; apart = ne; two = there })
            (record {
              shares = refl;
              drawn = λ x.
                  let f = λ (z : Service). times x z.draws in
                  let a : ℕ = total f (v.producer.service ∷ v.producer.joined) in
                  let b : ℕ = total f (w.producer.service ∷ w.producer.joined) in
                  let done : total f ((v.producer.service ∷ v.producer.joined)
                  ++ w.producer.service ∷ w.producer.joined) ≡ a + b =
                  total-append f (v.producer.service ∷ v.producer.joined)
                  (w.producer.service ∷ w.producer.joined) in
                  done;
              first = λ e. omega arith;
              second = λ _ e. omega arith;
            })
            (record {
              tops = tops;
              both_knows = record {
                claims = (λ i. interleaved (own.claims i) (its.claims i))
                    ∙ sym (owned_by-handed_over C start other id h ne r.memory.placed);
                tail_seen = subst (λ k. max v.producer.seen_tail w.producer.seen_tail ≤ k) (sym tops)
                    (let both : max v.producer.seen_tail w.producer.seen_tail ≤ top = omega arith in both);
                head_seen = omega arith;
                idle = λ none. absurd (let sum : v.producer.shares + w.producer.shares ≡ 0 = none in omega arith);
                served = served_append r.drawn r.consumer.heartbeats (v.producer.service ∷ v.producer.joined)
                    (w.producer.service ∷ w.producer.joined) own.served its.served;
                consumes = own.consumes;
              };
              spent_knows = knows_new 0 0 0 refl (owned_by-handed_away other id h ne) (omega arith, omega arith)
                  (λ e. absurd (false≢true e));
              others = λ j u a b f. knows_after f (omega arith) (owned_by-handed_over_other j other id h b a);
              outside = λ j past. owned_by-handed_over_other j other id h
                  (λ e. let b = at_below s.views other w was in omega arith)
                  (λ e. let b = at_below s.views id v at in omega arith);
            });
      }
