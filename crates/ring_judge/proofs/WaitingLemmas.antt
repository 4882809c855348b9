-- What a line takes from the lists of the producers.
use Rattle.std.proofs.Common.{◌≡◌, ℕ, ◌+◌, ◌-◌, ◌<◌, ◌≤◌, List, [], ◌∷◌, length, drop, get_or, set, Some, Global, Vec, sym, ap, ◌∙◌, ⊎_elim, zero, suc, eqb, Bool, true, false, subst, arith, get_or-set_other, get_or-set_same, slice_get, MatchBool, eqb-true, length-set}
use Rattle.std.proofs.lemmas.Bool.{cases_eq, cases_Bool, eqb-false}
use Rattle.std.proofs.lemmas.List.{drop_more, length-map, get_or_default, nil_from_length}
use Rattle.std.proofs.lemmas.Option.{slice_get_within, get_or_from_slice_get}
use Rattle.ring_judge.specs.{Lists.lists_of, declared.message.Message.Message}
use Rattle.ring_judge.proofs.{ListLemmas.lists_of-at, PartLemmas.without}
use Rattle.ring_judge.specs.declared.queue.QueueLine.{TheVariants.Got, TheVariants.Empty, QueueLine}
use Rattle.ring_judge.specs.Queue.{part_of, AreWaiting, AnswersLine, Follows, Refuses}
use Rattle.ring_judge.proofs.FollowLemmas.{follows_got, refuses_got, follows_empty, refuses_empty}

pub drop_from_get : (xs : List Message) (i : ℕ) (m : Message) → slice_get xs i ≡ Some m → drop i xs ≡ m ∷ drop (i + 1) xs
drop_from_get xs i m e = drop_more xs i m (slice_get_within xs i m e)
    ∙ ap (λ x. x ∷ drop (i + 1) xs) (get_or_from_slice_get xs i m m e)

pub get_from_drop : (xs : List Message) (i : ℕ) (m : Message) (rest : List Message) → drop i xs ≡ m ∷ rest
    → slice_get xs i ≡ Some m
get_from_drop [] zero m rest e = cc
get_from_drop [] (suc i) m rest e = cc
get_from_drop (x ∷ xs) zero m rest e = ap Some (first_is x m xs rest e)
  where
    first_is : (x m : Message) (xs rest : List Message) → x ∷ xs ≡ m ∷ rest → x ≡ m
    first_is x m xs rest e = cc
get_from_drop (x ∷ xs) (suc i) m rest e = get_from_drop xs i m rest e

-- a message that is not next in its producer's list is refused
pub refuses_other : (lists : List (List Message)) (taken : List ℕ) (left : ℕ) (m : Message) → m.producer < length taken
    → (slice_get (get_or lists m.producer []) (get_or taken m.producer 0) ≡ Some m → ⊥)
    → (w : List Message) → AreWaiting lists taken left w → Refuses w (Got m)
refuses_other lists taken left m lt other w waiting = refuses_got m w
    (λ rest e. other (get_from_drop (get_or lists m.producer []) (get_or taken m.producer 0) m rest
    (sym (waiting.parts m.producer lt) ∙ e)))

own_part : (lists : List (List Message)) (taken : List ℕ) (p q t : ℕ) (m : Message) (w v : List Message) → q ≡ p
    → p < length taken → part_of p w ≡ m ∷ drop (t + 1) (get_or lists p []) → part_of p w ≡ m ∷ part_of p v
    → part_of q v ≡ drop (get_or (set taken p (t + 1)) q 0) (get_or lists q [])
own_part lists taken p q t m w v e lt next own =
    let here : part_of p v ≡ drop (t + 1) (get_or lists p []) = cc in
    let index = get_or-set_same taken p (t + 1) 0 lt in
    ap (λ k. part_of k v) e ∙ (here ∙ (ap (λ k. drop k (get_or lists p [])) (sym index)
    ∙ sym (ap (λ k. drop (get_or (set taken p (t + 1)) k 0) (get_or lists k [])) e)))

-- one that is next is taken
pub takes_next : (lists : List (List Message)) (taken : List ℕ) (left : ℕ) (m : Message) → m.producer < length taken
    → slice_get (get_or lists m.producer []) (get_or taken m.producer 0) ≡ Some m
    → (w : List Message) → AreWaiting lists taken left w
    → (v : List Message) × AreWaiting lists (set taken m.producer (get_or taken m.producer 0 + 1)) (left - 1) v
    × Follows w (Got m) v
takes_next lists taken left m lt is w waiting =
    let p = m.producer in let l = get_or lists p [] in let t = get_or taken p 0 in
    let next : part_of p w ≡ m ∷ drop (t + 1) l = waiting.parts p lt ∙ drop_from_get l t m is in
    let made = without m w (drop (t + 1) l) next in let v = made.0 in (
      v,
      record {
        same = length-set taken p (t + 1) ∙ waiting.same;
        parts = λ q below. ⊎_elim
            (λ e. own_part lists taken p q t m w v e lt next made.1.own)
            (λ ne. sym (made.1.others q (λ f. ne (sym f)))
            ∙ (waiting.parts q (omega (arith, length-set taken p (t + 1)))
            ∙ ap (λ k. drop k (get_or lists q [])) (sym (get_or-set_other taken p q (t + 1) 0 ne))))
            (cases_eq q p);
        counted = omega (arith, waiting.counted, made.1.shorter);
      },
      follows_got m w v made.1,
    )

-- something is left, so some message is
pub some_waits : (lists : List (List Message)) (taken : List ℕ) (left : ℕ) (m : Message) → m.producer < length taken
    → slice_get (get_or lists m.producer []) (get_or taken m.producer 0) ≡ Some m
    → (w : List Message) → AreWaiting lists taken left w → 1 ≤ left
some_waits lists taken left m lt is w waiting =
    let p = m.producer in
    let made = without m w (drop (get_or taken p 0 + 1) (get_or lists p []))
    (waiting.parts p lt ∙ drop_from_get (get_or lists p []) (get_or taken p 0) m is) in
    omega (arith, waiting.counted, made.1.shorter)

-- what a program reads: the list of a producer, and how many of it were taken
pub read_number : (taken : List ℕ) (p t : ℕ) → p < length taken → t ≡ get_or taken p t → t ≡ get_or taken p 0
read_number taken p t lt is = is ∙ get_or_default taken p t 0 lt

pub read_next : (sent : List (Vec Message Global)) (taken : List ℕ) (p t : ℕ) (v : Vec Message Global) (l : List Message)
    → p < length taken → length taken ≡ length (lists_of sent) → v ≡ get_or sent p v → l ≡ v.items
    → t ≡ get_or taken p t → slice_get (get_or (lists_of sent) p []) (get_or taken p 0) ≡ slice_get l t
read_next sent taken p t v l lt same at list number =
    let within : p < length sent = omega (arith, length-map sent (λ (u : Vec Message Global). u.items)) in
    ap (λ k. slice_get k (get_or taken p 0)) (lists_of-at sent p v within at ∙ sym list)
    ∙ ap (slice_get l) (sym (read_number taken p t lt number))

-- a line that says that nothing is left
pub answers_empty : (lists : List (List Message)) (taken : List ℕ) (left : ℕ) (line : QueueLine) → line ≡ Empty
    → AnswersLine lists taken left taken left line (eqb left 0)
answers_empty lists taken left line is w waiting = ⊎_elim
    (λ zero. let none : w ≡ [] = nil_from_length w (omega (arith, waiting.counted, eqb-true left 0 zero)) in
    let yes : MatchBool true ((v : List Message) × AreWaiting lists taken left v × Follows w line v) (Refuses w line) =
    (w, waiting, subst (λ (x : QueueLine). Follows w x w) (sym is) (follows_empty w none)) in
    subst (λ (b : Bool). MatchBool b ((v : List Message) × AreWaiting lists taken left v × Follows w line v)
    (Refuses w line)) (sym zero) yes)
    (λ more. let some : w ≡ [] → ⊥ = λ e. eqb-false left 0 more (waiting.counted ∙ ap length e) in
    let no : MatchBool false ((v : List Message) × AreWaiting lists taken left v × Follows w line v) (Refuses w line) =
    subst (λ (x : QueueLine). Refuses w x) (sym is) (refuses_empty w some) in
    subst (λ (b : Bool). MatchBool b ((v : List Message) × AreWaiting lists taken left v × Follows w line v)
    (Refuses w line)) (sym more) no)
    (cases_Bool (eqb left 0))
