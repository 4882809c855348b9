-- When a ring can have been full.
use Rattle.std.proofs.Common.{◌≡◌, ℕ, ◌+◌, ◌-◌, ◌<◌, ◌≤◌, ◌⊎◌, ◌↔◌, List, [], ◌∷◌, ◌++◌, length, take, drop, get_or, Bool, true, false, Option, None, inl, inr, sym, refl, ap, ◌∙◌, ⊎_elim, subst, arith, pos, All, MatchBool, IsTrue, eq-or-lt_of_le, take_all, length-append, get_or-drop, length-drop}
use Rattle.std.proofs.lemmas.List.Elements.{All-same, All-cons}
use Rattle.std.proofs.lemmas.List.{drop_more, take_more, take-append-le, get_or_append_left, get_or_at}
use Rattle.std.proofs.lemmas.Bool.{cases_lt, cases_order, iff_false}
use Rattle.ring_layout.specs.{History.span, Places.end_after}
use Rattle.ring_judge.specs.declared.ring.{Fate.TheVariants.Open, RingClaim.RingClaim}
use Rattle.ring_judge.specs.Ring.{RingState, CanRefuse, IsFull, end_of_claim, end_of_claims}
use Rattle.ring_judge.specs.Judged.{AreLeastHeads, FindsHead, IsLeastHead}
use Rattle.ring_judge.proofs.HeadLemmas.{end_append}

pub full_when_empty : (C start len : ℕ) → (start + C < end_after C start (span len)) ↔ IsFull C start [] len
full_when_empty C start len = (
  λ lt. record { head = start; reached = refl; had_room = omega arith; no_room = lt },
  λ full. let e : full.head ≡ start = full.reached in let lt = full.no_room in
      subst (λ (h : ℕ). h + C < end_after C start (span len)) e lt,
)

pub full_at_least : (C start tail head len : ℕ) (claims : List RingClaim) → IsLeastHead C start tail claims head
    → end_of_claims start claims ≡ tail → (head + C < end_after C tail (span len)) ↔ IsFull C start claims len
full_at_least C start tail head len claims its is = (
  λ lt. record {
    head = head;
    reached = its.reached;
    had_room = subst (λ (t : ℕ). t ≤ head + C) (sym is) its.had_room;
    no_room = subst (λ (t : ℕ). head + C < end_after C t (span len)) (sym is) lt;
  },
  λ full. let far = subst (λ (t : ℕ). full.head + C < end_after C t (span len)) is full.no_room in
      let had : tail ≤ full.head + C = omega (arith, full.had_room, is) in
      let least = its.least full.head full.reached had in omega (arith, least, far),
)

pub end_of_first : (start k : ℕ) (claims : List RingClaim) (d : RingClaim) → k < length claims
    → end_of_claims start (take (k + 1) claims) ≡ end_of_claim (get_or claims k d)
end_of_first start k claims d lt = ap (end_of_claims start) (take_more claims k d lt)
    ∙ end_append start (take k claims) (get_or claims k d)

less_or_last : (k n : ℕ) → k < n + 1 → (k < n) ⊎ (k ≡ n)
less_or_last k n lt = ⊎_elim (λ less. inl less) (λ ge. inr (omega arith)) (cases_lt k n)

-- one claim more, with its least head
pub heads_more : (C start : ℕ) (claims : List RingClaim) (heads : List (Option ℕ)) (c : RingClaim) (found : Option ℕ)
    → AreLeastHeads C start claims heads
    → FindsHead C start (end_of_claims start (claims ++ c ∷ [])) (claims ++ c ∷ []) found
    → AreLeastHeads C start (claims ++ c ∷ []) (heads ++ found ∷ [])
heads_more C start claims heads c found are its =
    let Finds = λ (made : List RingClaim) (o : Option ℕ). FindsHead C start (end_of_claims start made) made o in
    record {
      same = length-append heads (found ∷ []) ∙ (ap (λ n. n + 1) are.same ∙ sym (length-append claims (c ∷ [])));
      found = λ k lt. ⊎_elim
          (λ less. let made = take-append-le (k + 1) claims (c ∷ []) (omega (arith, less)) in
          let at = get_or_append_left heads (found ∷ []) None k (omega (arith, less, are.same)) in
          subst (λ (l : List RingClaim). Finds l (get_or (heads ++ found ∷ []) k None)) (sym made)
          (subst (Finds (take (k + 1) claims)) (sym at) (are.found k less)))
          (λ last. let made = take_all (k + 1) (claims ++ c ∷ [])
          (omega (arith, last, length-append claims (c ∷ []))) in
          let at = get_or_at heads found [] None k (are.same ∙ sym last) in
          subst (λ (l : List RingClaim). Finds l (get_or (heads ++ found ∷ []) k None)) (sym made)
          (subst (Finds (claims ++ c ∷ [])) (sym at) its))
          (less_or_last k (length claims) (omega (arith, lt, length-append claims (c ∷ []))));
    }

-- the producer made none of the last claims, and with more claims than `count` the ring was not full
pub record AreNotFull (C : ℕ) (s : RingState) (p len count : ℕ) : Type 0 where
  pub within : count ≤ length s.claims
  pub since : All (λ c. c.producer ≡ p → ⊥) (drop count s.claims)
  pub later : (n : ℕ) → count < n → n ≤ length s.claims → IsFull C s.start (take n s.claims) len → ⊥

pub not_full_more : (C : ℕ) (s : RingState) (p len count : ℕ) (d : RingClaim) → AreNotFull C s p len count → 0 < count
    → ((get_or s.claims (count - 1) d).producer ≡ p → ⊥) → (IsFull C s.start (take count s.claims) len → ⊥)
    → AreNotFull C s p len (count - 1)
not_full_more C s p len count d are some other now = let k : ℕ = count - 1 in
    let e : k + 1 ≡ count = omega (arith, some) in
    let lt : k < length s.claims = omega (arith, some, are.within) in
    let rest : drop k s.claims ≡ get_or s.claims k d ∷ drop count s.claims =
    drop_more s.claims k d lt ∙ ap (λ n. get_or s.claims k d ∷ drop n s.claims) e in
    record {
      within = omega (arith, are.within);
      since = All-same (λ c. c.producer ≡ p → ⊥) (drop k s.claims) (get_or s.claims k d ∷ drop count s.claims) rest
          (All-cons (λ c. c.producer ≡ p → ⊥) (get_or s.claims k d) (drop count s.claims) other are.since);
      later = λ n more le full. ⊎_elim (λ fewer. omega (arith, fewer, more))
          (λ at_least. ⊎_elim (λ same. now (subst (λ (m : ℕ). IsFull C s.start (take m s.claims) len) (sym same) full))
          (λ differs. are.later n differs le full) (eq-or-lt_of_le at_least)) (cases_lt n count);
    }

-- the claim in place of what is past the end of a list
abbrev pub nowhere : RingClaim
nowhere = record { producer = 0; place = 0; type_id = pos 0; length = 0; fate = Open }

-- the claim before the last ones is one of the producer's, if there is any
pub never_full : (C : ℕ) (s : RingState) (p len count : ℕ) → AreNotFull C s p len count
    → (IsFull C s.start (take count s.claims) len → ⊥)
    → ((d : RingClaim) → 0 < count → (get_or s.claims (count - 1) d).producer ≡ p) → CanRefuse C s p len → ⊥
never_full C s p len count are now own can = let n = can.count in ⊎_elim
    (λ same. now (subst (λ (k : ℕ). IsFull C s.start (take k s.claims) len) same can.full))
    (λ differs. ⊎_elim (λ fewer. let k : ℕ = count - 1 - n in let e : n + k ≡ count - 1 = omega (arith, fewer) in
    let last : RingClaim = get_or s.claims (count - 1) nowhere in
    let at : get_or (drop n s.claims) k nowhere ≡ last =
    get_or-drop n s.claims k nowhere ∙ ap (λ i. get_or s.claims i nowhere) e in
    let lt : k < length (drop n s.claims) = omega (arith, length-drop n s.claims, fewer, are.within) in
    can.since k nowhere lt (ap (λ (x : RingClaim). x.producer) at ∙ own nowhere (omega (arith, fewer))))
    (λ more. are.later n more can.within can.full) differs) (cases_order n count)

-- the answer, from a test
pub answered : (b : Bool) {P Q R : Type 0} → (IsTrue b ↔ P) → (P → Q) → ((P → ⊥) → R) → MatchBool b Q R
answered true test made unmade = made (test.0 refl)
answered false test made unmade = unmade (iff_false test refl)
