-- What calls of adders do: p is the adder before, q after, o is another adder, and the code is what is returned.
use Rattle.std.specs.Prelude.{◌≡◌, ◌≢◌, ◌⊎◌, ℕ, ◌+◌, ◌<◌, ℤ, [], ◌++◌}
use Rattle.std.specs.Arc.{arc_value}
use Rattle.ring_layout.specs.{Lists.Begins, Refusals.all_shares}
use Rattle.ring_adders.specs.Adders.{added_by, seen_by, shares_of, AddsAmount, IsAdderOf, IsNewAdderOf, SeesSum}
use Rattle.ring_adders.specs.Sums.{sum_of}
use Rattle.ring_handles.specs.declared.{adders.AdderSide.AdderSide, identity.Identity.Identity}
use Rattle.ring_layout.specs.declared.refusal_codes.TheConstants.{NO_SHARES, OUT_OF_MEMORY}
use Rattle.ring_handles.specs.declared.code.TheConstants.{DONE, OTHER_RING}

-- it is an adder of the same shared counter, with the same number
pub record IsOfCounterOf (p q : AdderSide) : Type 0 where
  pub counter : arc_value q.counter ≡ arc_value p.counter
  pub identity : q.identity ≡ p.identity

-- the same, and no share was given or taken
pub record KeepsShares (p q : AdderSide) : Type 0 where
  pub shares : shares_of q.adder ≡ shares_of p.adder
  pub same : IsOfCounterOf p q

-- Making -------------------------------------------------------------------------

-- an adder with all shares of a shared counter of this number, to which nothing was added
pub record IsFirst (i : Identity) (p : AdderSide) : Type 0 where
  pub new : IsNewAdderOf (arc_value p.counter) [] p.adder
  pub shares : shares_of p.adder ≡ all_shares
  pub identity : p.identity ≡ i

-- Adding -------------------------------------------------------------------------

-- the amount was added after all that any adder had added before, and the sum of that is put out
abbrev pub Summed : ℤ → ℤ → AdderSide → AdderSide → ℤ → Type 0
Summed amount before p q code = (code ≡ DONE) × AddsAmount amount before p.adder q.adder × KeepsShares p q

-- the sum of all that any adder added until then is put out; if the adder has all shares, that is exactly the sum of
-- what was added with it, and with those that it took in
abbrev pub SaysSum : ℤ → AdderSide → AdderSide → ℤ → Type 0
SaysSum value p q code = (code ≡ DONE) × SeesSum value p.adder q.adder
    × (shares_of p.adder ≡ all_shares → value ≡ sum_of (added_by p.adder)) × KeepsShares p q

-- how many shares it has is put out
abbrev pub SaysShares : ℕ → AdderSide → AdderSide → ℤ → Type 0
SaysShares shares p q code = (code ≡ DONE) × (q ≡ p) × (shares ≡ shares_of p.adder)

-- Splitting and joining ----------------------------------------------------------

-- one share was moved to another adder of the shared counter, with which nothing was added
pub record SplitsAdder (p q o : AdderSide) : Type 0 where
  pub spare : 1 < shares_of p.adder
  pub left : shares_of q.adder + 1 ≡ shares_of p.adder
  pub added : added_by q.adder ≡ added_by p.adder
  pub seen : seen_by q.adder ≡ seen_by p.adder
  pub same : IsOfCounterOf p q
  pub right : IsNewAdderOf (arc_value p.counter) (seen_by p.adder) o.adder
  pub one : shares_of o.adder ≡ 1
  pub other : IsOfCounterOf p o

-- why it is not split: it has one share, or memory runs out
abbrev pub WhyNotSplit : AdderSide → ℤ → Type 0
WhyNotSplit p code = ((code ≡ NO_SHARES) × (shares_of p.adder ≡ 1)) ⊎ (code ≡ OUT_OF_MEMORY)

-- if it has the same number, the other one is of the same shared counter
abbrev pub IsOfThisCounter : AdderSide → AdderSide → Type 0
IsOfThisCounter p o = p.identity ≡ o.identity → IsAdderOf (arc_value p.counter) o.adder

-- the other one, which has the same number, was taken in, with its shares and what was added with it
pub record TakesAdder (p o q : AdderSide) : Type 0 where
  pub identity : p.identity ≡ o.identity
  pub shares : shares_of q.adder ≡ shares_of p.adder + shares_of o.adder
  pub added : added_by q.adder ≡ added_by p.adder ++ added_by o.adder
  pub seen : Begins (seen_by p.adder) (seen_by q.adder)
  pub same : IsOfCounterOf p q

-- the numbers differ
abbrev pub IsOfAnother : AdderSide → AdderSide → ℤ → Type 0
IsOfAnother p o code = (code ≡ OTHER_RING) × (p.identity ≢ o.identity)
