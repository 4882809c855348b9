use Rattle.std.proofs.Common.{◌≡◌, ◌≤◌, ◌<◌, ◌+◌, ◌-◌, ◌∙◌, ℕ, Option, Some, None, ap, sym, get_or, take, length, arith, subst}
use Rattle.std.proofs.lemmas.List.{get_or_default, Elements.All-take}
use Rattle.ring_layout.specs.Places.{max_position}
use Rattle.ring_judge.specs.{declared.ring.judged.Judged.Judged, Judged.FindsHead, Judged.IsJudged, Judged.IsLeastHead}
use Rattle.ring_judge.specs.Ring.{IsFull, end_of_claim, end_of_claims}
use Rattle.ring_judge.proofs.HeadLemmas.{reach_within}
use Rattle.ring_judge.proofs.RefusalLemmas.{full_when_empty, full_at_least, end_of_first}
use Rattle.ring_judge.proofs.ring.judged.Judged.is_full.Goals as goal

-- the least head when this many claims were made
least_at : (j : Judged) (count head : ℕ) (d : Option ℕ) → IsJudged j → 0 < count → count ≤ length j.claims.items
    → d ≡ get_or j.heads.items (count - 1) d → d ≡ Some head
    → let made = take count j.claims.items in
    IsLeastHead j.capacity j.start (end_of_claims j.start made) made head
least_at j count head d judged some le is found = let k : ℕ = count - 1 in
    let e : k + 1 ≡ count = omega (arith, some) in
    let Finds = λ (n : ℕ) (o : Option ℕ). let made = take n j.claims.items in
    FindsHead j.capacity j.start (end_of_claims j.start made) made o in
    let lt : k < length j.claims.items = omega (arith, some, le) in
    let lt' : k < length j.heads.items = omega (arith, lt, judged.heads.same) in
    let here : get_or j.heads.items k None ≡ Some head =
    get_or_default j.heads.items k None d lt' ∙ (sym is ∙ found) in
    subst (λ (o : Option ℕ). Finds count o) here
    (subst (λ (n : ℕ). Finds n (get_or j.heads.items k None)) e (judged.heads.found k lt))

pub returns-then-count-eq0 : goal.returns-then-count-eq0
returns-then-count-eq0 c = let its = c.args.self.now in
    let full = full_when_empty its.capacity its.start c.args.len in
    let Full = λ (n : ℕ). IsFull its.capacity its.start (take n its.claims.items) c.args.len in (
      λ yes. subst Full (sym c.if-count-eq0.true) (full.0 (c.is_full_at.ensures.0 yes)),
      λ is. c.is_full_at.ensures.1 (full.1 (subst Full c.if-count-eq0.true is)),
    )

pub is_full_at-requires-in-Some-clause-head : goal.is_full_at-requires-in-Some-clause-head
is_full_at-requires-in-Some-clause-head c = let its = c.args.self.now in let j = c.requires.judged in
    let least = least_at its c.args.count c.in-Some.head c.index.result.now j (omega arith) c.requires.within
    c.index.ensures c.in-Some.is in
    reach_within max_position c.in-Some.head its.start (take c.args.count its.claims.items) least.reached j.start
    (All-take (λ x. end_of_claim x ≤ max_position) c.args.count its.claims.items j.ends)

pub returns-in-Some : goal.returns-in-Some
returns-in-Some c = let its = c.args.self.now in let j = c.requires.judged in let count = c.args.count in
    let items = its.claims.items in
    let least = least_at its count c.in-Some.head c.index.result.now j (omega arith) c.requires.within
    c.index.ensures c.in-Some.is in
    let k : ℕ = count - 1 in
    let e : k + 1 ≡ count = omega arith in
    let lt : k < length items = omega (arith, c.requires.within) in
    let claim = c.index-in-Some.result.now in
    let end : end_of_claims its.start (take count items) ≡ c.end_of_claim.result =
    subst (λ (n : ℕ). end_of_claims its.start (take n items) ≡ c.end_of_claim.result) e
    (end_of_first its.start k items claim lt
    ∙ (ap end_of_claim (sym c.index-in-Some.ensures) ∙ sym c.end_of_claim.ensures)) in
    let least' : IsLeastHead its.capacity its.start c.end_of_claim.result (take count items) c.in-Some.head =
    subst (λ (t : ℕ). IsLeastHead its.capacity its.start t (take count items) c.in-Some.head) end least in
    let full = full_at_least its.capacity its.start c.end_of_claim.result c.in-Some.head c.args.len (take count items)
    least' end in (
      λ yes. full.0 (c.is_full_at-in-Some.ensures.0 yes),
      λ is. c.is_full_at-in-Some.ensures.1 (full.1 is),
    )
