-- Messages of several producers in one list.
use Rattle.std.proofs.Common.{◌≡◌, ◌∙◌, ◌+◌, ◌*◌, ◌≤◌, ℕ, ℤ, zero, suc, pos, Bool, true, false, cond, List, [], ◌∷◌, ◌++◌, length, length-append, refl, sym, ap, arith, inl, inr, filter, int_eq}
use Rattle.std.proofs.lemmas.List.Elements.{filter-append}
use Rattle.ring_layout.specs.declared.message.Message.{Message}
use Rattle.ring_rings.specs.Ring.{AreMerged}
use Rattle.ring_ends.specs.{End.received, End.sent, End.End, Ending.Last}
use Rattle.ring_uses.specs.{declared.numbers.Summed.Summed, Numbers.numbered, Numbers.numbers, Numbers.sum_of}
use Rattle.ring_uses.specs.Closing.{IsClosedWith}
use Rattle.ring_uses.specs.Producers.{of_type, AreInOrder, AreOfFour, AreOfTwo}
use Rattle.ring_uses.proofs.{ClosedLemmas.whole_in, SumLemmas.length-numbers, SumLemmas.none_unread}

length-merged : (xs ys zs : List Message) → AreMerged xs ys zs → length zs ≡ length xs + length ys
length-merged xs ys [] h = let a = ap length h.0 in let b = ap length h.1 in omega (arith, a, b)
length-merged xs ys (z ∷ zs) (inl h) =
    let rest = length-merged h.0 ys zs h.2 in
    let a = ap length h.1 in
    omega (arith, a, rest)
length-merged xs ys (z ∷ zs) (inr h) =
    let rest = length-merged xs h.0 zs h.2 in
    let a = ap length h.1 in
    omega (arith, a, rest)

-- if a test holds of none of the second list, it holds of the same messages in the first list and in both
module _ (test : Message → Bool) where
  with_first : (z : Message) (xs zs : List Message) (b : Bool) → filter test xs ≡ filter test zs
      → cond b (z ∷ filter test xs) (filter test xs) ≡ cond b (z ∷ filter test zs) (filter test zs)
  with_first z xs zs b rest = ap (λ l. cond b (z ∷ l) l) rest

  dropped : (z : Message) (ys : List Message) (b : Bool) → cond b (z ∷ filter test ys) (filter test ys) ≡ []
      → (b ≡ false) × (filter test ys ≡ [])
  dropped z ys true none = let l = ap length none in absurd (omega (arith, l))
  dropped z ys false none = (refl, none)

  pub of_first : (xs ys zs : List Message) → AreMerged xs ys zs → filter test ys ≡ []
      → filter test zs ≡ filter test xs
  of_first xs ys [] h none = sym (ap (filter test) h.0)
  of_first xs ys (z ∷ zs) (inl h) none =
      with_first z zs h.0 (test z) (of_first h.0 ys zs h.2 none) ∙ sym (ap (filter test) h.1)
  of_first xs ys (z ∷ zs) (inr h) none =
      let split = dropped z h.0 (test z) (sym (ap (filter test) h.1) ∙ none) in
      ap (λ b. cond b (z ∷ filter test zs) (filter test zs)) split.0 ∙ of_first xs h.0 zs h.2 split.1

  pub of_second : (xs ys zs : List Message) → AreMerged xs ys zs → filter test xs ≡ []
      → filter test zs ≡ filter test ys
  of_second xs ys [] h none = sym (ap (filter test) h.1)
  of_second xs ys (z ∷ zs) (inr h) none =
      with_first z zs h.0 (test z) (of_second xs h.0 zs h.2 none) ∙ sym (ap (filter test) h.1)
  of_second xs ys (z ∷ zs) (inl h) none =
      let split = dropped z h.0 (test z) (sym (ap (filter test) h.1) ∙ none) in
      ap (λ b. cond b (z ∷ filter test zs) (filter test zs)) split.0 ∙ of_second h.0 ys zs h.2 split.1

own : (type_id : ℤ) → int_eq type_id type_id ≡ true → (n : ℕ) → of_type type_id (numbers type_id n) ≡ numbers type_id n
own type_id same zero = refl
own type_id same (suc n) =
    let test = λ (m : Message). int_eq m.type_id type_id in
    let m = numbered type_id (suc n) in
    filter-append test (numbers type_id n) (m ∷ [])
    ∙ ap (λ l. l ++ filter test (m ∷ [])) (own type_id same n)
    ∙ ap (λ b. numbers type_id n ++ cond b (m ∷ []) []) same

others : (type_id other : ℤ) → int_eq other type_id ≡ false → (n : ℕ) → of_type type_id (numbers other n) ≡ []
others type_id other apart zero = refl
others type_id other apart (suc n) =
    let test = λ (m : Message). int_eq m.type_id type_id in
    let m = numbered other (suc n) in
    filter-append test (numbers other n) (m ∷ [])
    ∙ ap (λ l. l ++ filter test (m ∷ [])) (others type_id other apart n)
    ∙ ap (λ b. cond b (m ∷ []) []) apart

-- what a pair sent, by type id
module _ (first second : ℤ) (last : ℕ) (ms : List Message) (h : AreOfTwo first second last ms) where
  pub none_of : (type_id : ℤ) → int_eq first type_id ≡ false → int_eq second type_id ≡ false → of_type type_id ms ≡ []
  none_of type_id apart apart' =
      of_first (λ (m : Message). int_eq m.type_id type_id) (numbers first h.n) (numbers second h.m) ms h.merged
      (others type_id second apart' h.m) ∙ others type_id first apart h.n

  pub first_of : int_eq first first ≡ true → int_eq second first ≡ false → of_type first ms ≡ numbers first h.n
  first_of same apart =
      of_first (λ (m : Message). int_eq m.type_id first) (numbers first h.n) (numbers second h.m) ms h.merged
      (others first second apart h.m) ∙ own first same h.n

  pub second_of : int_eq second second ≡ true → int_eq first second ≡ false → of_type second ms ≡ numbers second h.m
  second_of same apart =
      of_second (λ (m : Message). int_eq m.type_id second) (numbers first h.n) (numbers second h.m) ms h.merged
      (others second first apart h.n) ∙ own second same h.m

  pub count_of : length ms ≡ h.n + h.m
  count_of =
      length-merged (numbers first h.n) (numbers second h.m) ms h.merged
      ∙ (λ i. length-numbers first h.n i + length-numbers second h.m i)

-- as many messages were received as four producers were to send
pub in_order : (last : ℕ) (s : Summed Last) (p q : End) → IsClosedWith p q s.closed
    → AreOfFour last (sent p) → 4 * last ≤ length (received q) → s.sum ≡ sum_of (received q) → AreInOrder last s
in_order last s p q closed four enough is =
    let whole = closed.whole in
    let a = four.first in
    let b = four.second in
    let count_a = count_of (pos 1) (pos 2) last four.left a in
    let count_b = count_of (pos 3) (pos 4) last four.right b in
    let both = length-merged four.left four.right (sent p) four.merged in
    let few_a = a.few in
    let few_b = a.few_too in
    let few_c = b.few in
    let few_d = b.few_too in
    let lengths = ap length whole.all ∙ refl in
    let split = length-append (received q) whole.unread in
    let all = none_unread (received q) whole.unread (sent p) whole.all (omega arith) in
    let same = ap length all in
    let one : a.n ≡ last = omega arith in
    let two : a.m ≡ last = omega arith in
    let three : b.n ≡ last = omega arith in
    let four' : b.m ≡ last = omega arith in
    let left = λ (k : ℤ). λ (none : of_type k four.right ≡ []). ap (of_type k) all
    ∙ of_first (λ (m : Message). int_eq m.type_id k) four.left four.right (sent p) four.merged none in
    let right = λ (k : ℤ). λ (none : of_type k four.left ≡ []). ap (of_type k) all
    ∙ of_second (λ (m : Message). int_eq m.type_id k) four.left four.right (sent p) four.merged none in
    let same_received = ap (λ (x : Last). received x.consumer) closed.ends in
    record {
      whole = whole_in p q s.closed closed;
      all = same_received ∙ (all ∙ sym (ap (λ (x : Last). sent x.producer) closed.ends));
      first = ap (of_type (pos 1)) same_received ∙ left (pos 1) (none_of (pos 3) (pos 4) last four.right b (pos 1) refl refl)
          ∙ first_of (pos 1) (pos 2) last four.left a refl refl ∙ ap (numbers (pos 1)) one;
      second = ap (of_type (pos 2)) same_received ∙ left (pos 2) (none_of (pos 3) (pos 4) last four.right b (pos 2) refl refl)
          ∙ second_of (pos 1) (pos 2) last four.left a refl refl ∙ ap (numbers (pos 2)) two;
      third = ap (of_type (pos 3)) same_received ∙ right (pos 3) (none_of (pos 1) (pos 2) last four.left a (pos 3) refl refl)
          ∙ first_of (pos 3) (pos 4) last four.right b refl refl ∙ ap (numbers (pos 3)) three;
      fourth = ap (of_type (pos 4)) same_received ∙ right (pos 4) (none_of (pos 1) (pos 2) last four.left a (pos 4) refl refl)
          ∙ second_of (pos 3) (pos 4) last four.right b refl refl ∙ ap (numbers (pos 4)) four';
      no_others = ap length same_received ∙ omega arith;
      sum = is ∙ ap sum_of (sym same_received);
    }
