-- Claims below a point, and the others.
use Rattle.std.proofs.Common.{◌≡◌, ℕ, ◌≤◌, List, [], ◌∷◌, ◌++◌, refl, sym, ap, ◌∙◌, append_assoc, arith}
use Rattle.ring_layout.{specs.Lists.Begins, proofs.PlaceLemmas.next_le}
use Rattle.ring_table.specs.{Closed.restarted, Rescued.unsettled_count}
use Rattle.ring_table.specs.{OpenClaims.AreBelow, Passing.placed_committed_of, Passing.placed_message, Passing.shown_at}
use Rattle.ring_table.specs.Staged.{ArePlaced, claim_end, staged_end, staged_span}
use Rattle.ring_table.specs.declared.claim.{PlacedMessage.PlacedMessage, Stage.Stage, StagedClaim.StagedClaim}
use Rattle.ring_recovery.{specs.Recovered.AreFrom, proofs.GivenLemmas.far}

-- placed claims begin at their start or above
pub all_from : (C e k : ℕ) (cs : List StagedClaim) → ArePlaced C e cs → k ≤ e → AreFrom k cs
all_from C e k [] placed le = tt
all_from C e k (c ∷ cs) placed le =
    let on = next_le C e (staged_span c) in
    let place = placed.0.place in
    (omega arith, all_from C (claim_end c) k cs placed.1 (omega arith))

-- claims that end at a point or below begin below it
pub all_below : (C e k : ℕ) (cs : List StagedClaim) → ArePlaced C e cs → staged_end e cs ≤ k → AreBelow k cs
all_below C e k [] placed le = tt
all_below C e k (c ∷ cs) placed le =
    let rest = far C (claim_end c) cs placed.1 in
    (omega arith, all_below C (claim_end c) k cs placed.1 le)

pub placed_front : (C e : ℕ) (front back : List StagedClaim) → ArePlaced C e (front ++ back) → ArePlaced C e front
placed_front C e [] back placed = tt
placed_front C e (c ∷ front) back placed = (placed.0, placed_front C (claim_end c) front back placed.1)

-- the first claims of a list, of which those that are not below a point come last
pub first_below : (k : ℕ) (xs ys front back : List StagedClaim) → xs ++ ys ≡ front ++ back → AreBelow k xs
    → AreFrom k back → Begins xs front
first_below k [] ys front back e low high = (front, refl)
first_below k (x ∷ xs) ys [] [] e low high = absurd cc
first_below k (x ∷ xs) ys [] (b ∷ back) e low high =
    let same : x ≡ b = cc in
    let places : x.place ≡ b.place = ap (λ (c : StagedClaim). c.place) same in
    let less = low.0 in
    let more = high.0 in
    absurd (omega arith)
first_below k (x ∷ xs) ys (f ∷ front) back e low high =
    let same : x ≡ f = cc in
    let t = first_below k xs ys front back (let rest : xs ++ ys ≡ front ++ back = cc in rest) low.1 high in
    (t.0, (λ i. sym same i ∷ t.1 i))

-- what two lists begin with, and the rest of one of them
pub same_rest : {A : Type 0} (xs ys zs : List A) → xs ++ ys ≡ xs ++ zs → ys ≡ zs
same_rest [] ys zs e = e
same_rest (x ∷ xs) ys zs e = same_rest xs ys zs (let rest : xs ++ ys ≡ xs ++ zs = cc in rest)

-- ---- what is seen of them

committed_by : (t : Stage) (m : PlacedMessage) (xs ys : List PlacedMessage)
    → shown_at t m ++ (xs ++ ys) ≡ (shown_at t m ++ xs) ++ ys
committed_by t m xs ys = sym (append_assoc (shown_at t m) xs ys)

pub committed_append : (xs ys : List StagedClaim)
    → placed_committed_of (xs ++ ys) ≡ placed_committed_of xs ++ placed_committed_of ys
committed_append [] ys = refl
committed_append (x ∷ xs) ys = ap (λ l. shown_at x.stage (placed_message x) ++ l) (committed_append xs ys)
    ∙ committed_by x.stage (placed_message x) (placed_committed_of xs) (placed_committed_of ys)

-- where the first claim's padding begins changes nothing
pub messages_restarted : (s : ℕ) (cs : List StagedClaim) → placed_committed_of (restarted s cs) ≡ placed_committed_of cs
messages_restarted s [] = refl
messages_restarted s (c ∷ cs) = refl

pub count_restarted : (s : ℕ) (cs : List StagedClaim) → unsettled_count (restarted s cs) ≡ unsettled_count cs
count_restarted s [] = refl
count_restarted s (c ∷ cs) = refl

pub from_restarted : (k s : ℕ) (cs : List StagedClaim) → AreFrom k (restarted s cs) → AreFrom k cs
from_restarted k s [] high = tt
from_restarted k s (c ∷ cs) high = high
