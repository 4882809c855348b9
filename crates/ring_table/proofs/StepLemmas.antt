-- The views of all seats as one of them steps.
use Rattle.ring_table.specs.{Staged.Bodies, Staged.staged_end, Owners.OwnedHistory, Owners.all_of, Owners.owned_by}
use Rattle.std.proofs.Common.{◌≡◌, ◌≢◌, ℕ, ◌+◌, ◌≤◌, ◌<◌, List, set, sym, ap, ◌∙◌, subst, length, length-set, arith}
use Rattle.std.proofs.Math.{Option.some, Option.some-injective, Logic.dite, Decide.ℕ_discrete, ListN.get_elem?}
use Rattle.atomic_table.proofs.Lists.{set_here, set_else}
use Rattle.ring_layout.specs.{Lists.total, Refusals.all_shares}
use Rattle.ring_table.specs.{Services.times_drawn, Services.once_below, Views.ConsumerView, Views.View, Views.spent}
use Rattle.ring_table.specs.Rule.{IsMemory, IsService, Knows, SeesTop, IsSeated, Kept, shares_of}
use Rattle.ring_layout.proofs.{Sums.total-set, Sums.total-zero, ListLemmas.at_below, ListLemmas.each_set}

-- what an entry that is known is, by two reports of it
pub one_view : (views : List View) (i j : ℕ) (u v : View) → get_elem? views i ≡ some u → get_elem? views j ≡ some v
    → i ≡ j → u ≡ v
one_view views i j u v at_i at_j same = some-injective u v (sym at_i ∙ ap (get_elem? views) same ∙ at_j)

-- a producer that has all shares leaves none to others
pub others_poor : (views : List View) (id j : ℕ) (v u : View) → total shares_of views ≡ all_shares
    → get_elem? views id ≡ some v → v.producer.shares ≡ all_shares → j ≢ id → get_elem? views j ≡ some u
    → u.producer.shares ≡ 0
others_poor views id j v u sum at all ne there =
    let left : ℕ = total shares_of (set views id spent) in
    let whole : ℕ = total shares_of views in
    let exchange : left + v.producer.shares ≡ whole + 0 = total-set shares_of views id v spent at in
    let whole_is : whole ≡ all_shares = sum in
    let none : left ≡ 0 = omega arith in
    total-zero shares_of (set views id spent) j u none (set_else views id j spent ne ∙ there)

-- and has seen the tail as it is
pub sole_sees_top : (views : List View) (id : ℕ) (v : View) (top : ℕ) → total shares_of views ≡ all_shares
    → SeesTop views top → get_elem? views id ≡ some v → v.producer.shares ≡ all_shares → v.producer.seen_tail ≡ top
sole_sees_top views id v top sum latest at all = dite (ℕ_discrete latest.seat id)
    (λ same. ap (λ (z : View). z.producer.seen_tail)
    (sym (one_view views latest.seat id latest.view v latest.there at same)) ∙ latest.sees)
    (λ other.
    let poor : latest.view.producer.shares ≡ 0 =
    others_poor views id latest.seat v latest.view sum at all other latest.there in
    absurd (omega arith))

-- some seat sees the new top if one saw the old one
pub sees_top_after : (views : List View) (id : ℕ) (v w : View) (top top' : ℕ) → get_elem? views id ≡ some v
    → (0 < v.producer.shares → 0 < w.producer.shares) → top' ≡ top
    → (v.producer.seen_tail ≡ top → w.producer.seen_tail ≡ top') → SeesTop views top → SeesTop (set views id w) top'
sees_top_after views id v w top top' at stays tops sees latest = dite (ℕ_discrete latest.seat id)
    (λ e.
    let is : latest.view ≡ v = one_view views latest.seat id latest.view v latest.there at e in
    record {
      seat = id;
      view = w;
      there = set_here views id w (at_below views id v at);
      rich = stays (subst (λ (z : View). 0 < z.producer.shares) is latest.rich);
      sees = sees (ap (λ (z : View). z.producer.seen_tail) (sym is) ∙ latest.sees);
    })
    (λ ne. record {
      seat = latest.seat;
      view = latest.view;
      there = set_else views id latest.seat w ne
          ∙ latest.there;
      rich = latest.rich;
      sees = latest.sees ∙ sym tops;
    })

module _ (top : ℕ) (hist : OwnedHistory) (reader : ℕ) (consumer : ConsumerView) (n : ℕ) where
  -- one seat steps, and the history, the consumer and the draws go on
  pub record Steps (views : List View) (id : ℕ) (v : View) (top' : ℕ) (hist' : OwnedHistory) (consumer' : ConsumerView)
      (n' : ℕ) (w : View) : Type 0 where
    pub own : Knows top' hist' reader consumer' n' id w
    pub others : (j : ℕ) (u : View) → j ≢ id → Knows top hist reader consumer n j u
        → Knows top' hist' reader consumer' n' j u
    pub shares : w.producer.shares ≡ v.producer.shares
    pub outside : (j : ℕ) → j ≢ id → owned_by j hist' ≡ owned_by j hist
    pub latest : SeesTop (set views id w) top'
    pub drawn : (x : ℕ) → times_drawn x w.producer + once_below x n ≡ times_drawn x v.producer + once_below x n'

  reseated : (views : List View) → IsSeated top hist reader consumer n views → (id : ℕ) (v : View)
      → get_elem? views id ≡ some v
      → (top' : ℕ) (hist' : OwnedHistory) (consumer' : ConsumerView) (n' : ℕ) (w : View)
      → Steps views id v top' hist' consumer' n' w → IsSeated top' hist' reader consumer' n' (set views id w)
  reseated views s id v at top' hist' consumer' n' w step =
      record {
        each = each_set (Knows top' hist' reader consumer' n') views id w step.own
            (λ j u ne e. step.others j u ne (s.each j u e));
        nobody = λ j past.
            let past' : length views ≤ j = subst (λ m. m ≤ j) (length-set views id w) past in
            let here = at_below views id v at in
            step.outside j (λ e. omega arith) ∙ s.nobody j past';
        shares =
            (let before : ℕ = total shares_of views in
            let after : ℕ = total shares_of (set views id w) in
            let exchange : after + v.producer.shares ≡ before + w.producer.shares = total-set shares_of views id v w
            at in
            let sum : before ≡ all_shares = s.shares in
            let done : after ≡ all_shares = omega arith in
            done);
        latest = step.latest;
        once = λ x.
            let f = λ (z : View). times_drawn x z.producer in
            let before : ℕ = total f views in
            let after : ℕ = total f (set views id w) in
            let old : ℕ = times_drawn x v.producer in
            let new : ℕ = times_drawn x w.producer in
            let was : ℕ = once_below x n in
            let is : ℕ = once_below x n' in
            let exchange : after + old ≡ before + new = total-set f views id v w at in
            let sum : before ≡ was = s.once x in
            let drew : new + was ≡ old + is = step.drawn x in
            let done : after ≡ is = omega arith in
            done;
      }

-- one seat steps, and so do the words
pub record Becomes (B : Bodies) (C start : ℕ) (words : List ℕ) (views : List View) (r : Kept B C start words views) (id : ℕ) (v : View)
    (words' : List ℕ) (hist' : OwnedHistory) (consumer' : ConsumerView) (n' : ℕ) (w : View) : Type 0 where
  pub memory : IsMemory B C start words' (all_of hist') consumer'
  pub service : IsService C words' consumer' n'
  pub steps : Steps (staged_end start (all_of r.hist)) r.hist r.reader r.consumer r.drawn views id v
      (staged_end start (all_of hist')) hist' consumer' n' w

pub becomes : (B : Bodies) → (C start : ℕ) (words : List ℕ) (views : List View) (r : Kept B C start words views) (id : ℕ) (v : View)
    → get_elem? views id ≡ some v
    → (words' : List ℕ) (hist' : OwnedHistory) (consumer' : ConsumerView) (n' : ℕ) (w : View)
    → Becomes B C start words views r id v words' hist' consumer' n' w → Kept B C start words' (set views id w)
becomes B C start words views r id v at words' hist' consumer' n' w now = record {
  lawful = r.lawful;
  hist = hist';
  reader = r.reader;
  consumer = consumer';
  drawn = n';
  memory = now.memory;
  service = now.service;
  seated = reseated (staged_end start (all_of r.hist)) r.hist r.reader r.consumer r.drawn views r.seated id v at
      (staged_end start (all_of hist')) hist' consumer' n' w now.steps;
}
