-- The lines of threads.
use Rattle.std.proofs.Common.{◌≡◌, ℕ, ◌+◌, ◌<◌, List, [], ◌∷◌, ◌++◌, length, take, get_or, set, eqb, true, sym, refl, ap, ◌∙◌, ⊎_elim, arith, get_or-set_other, get_or-set_same, ◌==◌, All, eq-eqb, ne_eqb, eqb-true, append-nil, length-take-le}
use Rattle.std.proofs.lemmas.{Bool.cases_eq, Bool.cond-true, Bool.cond-false, List.take_more}
use Rattle.std.proofs.lemmas.List.Elements.{All-cons, All-head, All-nil, All-tail, All-weaker, filter-append, filter_passes}
use Rattle.ring_judge.specs.declared.ring.{RingLine.RingLine, order.NumberedLine.NumberedLine}
use Rattle.ring_judge.specs.Threads.{lines_of, numbered, thread_of}

numbered-append : (n : ℕ) (xs ys : List RingLine) → numbered n (xs ++ ys) ≡ numbered n xs ++ numbered (n + length xs) ys
numbered-append n [] ys = ap (λ m. numbered m ys) (omega arith)
numbered-append n (x ∷ xs) ys = ap (λ l. record { at = n; line = x } ∷ l) (numbered-append (n + 1) xs ys
    ∙ ap (λ m. numbered (n + 1) xs ++ numbered m ys) (omega arith))

length_front : (run : List RingLine) (k : ℕ) → k < length run → 0 + length (take k run) ≡ k
length_front run k lt = omega (arith, length-take-le k run (omega (arith, lt)))

-- one line more
pub numbered_more : (run : List RingLine) (k : ℕ) (d : RingLine) → k < length run
    → numbered 0 (take (k + 1) run) ≡ numbered 0 (take k run) ++ record { at = k; line = get_or run k d } ∷ []
numbered_more run k d lt = ap (numbered 0) (take_more run k d lt)
    ∙ (numbered-append 0 (take k run) (get_or run k d ∷ [])
    ∙ ap (λ n. numbered 0 (take k run) ++ record { at = n; line = get_or run k d } ∷ []) (length_front run k lt))

pub own : (t : ℕ) (l : NumberedLine) (lines : List NumberedLine) → thread_of l.line ≡ t
    → lines_of t (l ∷ lines) ≡ l ∷ lines_of t lines
own t l lines e = cond-true (eqb (thread_of l.line) t) (l ∷ lines_of t lines) (lines_of t lines)
    (eq-eqb (thread_of l.line) t e)

pub other : (t : ℕ) (l : NumberedLine) (lines : List NumberedLine) → (thread_of l.line ≡ t → ⊥)
    → lines_of t (l ∷ lines) ≡ lines_of t lines
other t l lines ne = cond-false (eqb (thread_of l.line) t) (l ∷ lines_of t lines) (lines_of t lines)
    (ne_eqb (thread_of l.line) t ne)

pub lines_of-append : (t : ℕ) (xs ys : List NumberedLine) → lines_of t (xs ++ ys) ≡ lines_of t xs ++ lines_of t ys
lines_of-append t xs ys = filter-append (λ l. thread_of l.line == t) xs ys

pub own_more : (t : ℕ) (xs : List NumberedLine) (l : NumberedLine) → thread_of l.line ≡ t
    → lines_of t (xs ++ l ∷ []) ≡ lines_of t xs ++ l ∷ []
own_more t xs l e = lines_of-append t xs (l ∷ []) ∙ ap (λ ys. lines_of t xs ++ ys) (own t l [] e)

pub other_more : (t : ℕ) (xs : List NumberedLine) (l : NumberedLine) → (thread_of l.line ≡ t → ⊥)
    → lines_of t (xs ++ l ∷ []) ≡ lines_of t xs
other_more t xs l ne = lines_of-append t xs (l ∷ [])
    ∙ (ap (λ ys. lines_of t xs ++ ys) (other t l [] ne) ∙ append-nil (lines_of t xs))

pub are_of_thread : (t : ℕ) (xs : List NumberedLine) → All (λ l. thread_of l.line ≡ t) (lines_of t xs)
are_of_thread t xs = All-weaker (λ l. (thread_of l.line == t) ≡ true) (λ l. thread_of l.line ≡ t)
    (λ l is. eqb-true (thread_of l.line) t is) (lines_of t xs) (filter_passes (λ l. thread_of l.line == t) xs)

-- no line is of this thread
abbrev pub AreOthers : ℕ → List NumberedLine → Type 0
AreOthers t lines = All (λ l. thread_of l.line ≡ t → ⊥) lines

pub no_others : (t : ℕ) (lines : List NumberedLine) → AreOthers t lines → lines_of t lines ≡ []
no_others t [] others = refl
no_others t (l ∷ lines) others = other t l lines (All-head (λ m. thread_of m.line ≡ t → ⊥) l lines others)
    ∙ no_others t lines (All-tail (λ m. thread_of m.line ≡ t → ⊥) l lines others)

-- a line more in the list of its thread
pub list_more : (lists : List (List NumberedLine)) (run : List RingLine) (k : ℕ) (d : RingLine) → k < length run
    → thread_of (get_or run k d) < length lists
    → ((t : ℕ) → get_or lists t [] ≡ lines_of t (numbered 0 (take k run)))
    → (t : ℕ) → let s = thread_of (get_or run k d) in
    get_or (set lists s (get_or lists s [] ++ record { at = k; line = get_or run k d } ∷ [])) t []
    ≡ lines_of t (numbered 0 (take (k + 1) run))
list_more lists run k d lt within are t = let line = get_or run k d in let s = thread_of line in
    let l : NumberedLine = record { at = k; line = line } in
    let more = ap (lines_of t) (numbered_more run k d lt) in
    ⊎_elim
    (λ e. ap (λ u. get_or (set lists s (get_or lists s [] ++ l ∷ [])) u []) e
    ∙ (get_or-set_same lists s (get_or lists s [] ++ l ∷ []) [] within
    ∙ (ap (λ xs. xs ++ l ∷ []) (ap (λ u. get_or lists u []) (sym e) ∙ are t)
    ∙ (sym (own_more t (numbered 0 (take k run)) l (sym e)) ∙ sym more))))
    (λ ne. get_or-set_other lists s t (get_or lists s [] ++ l ∷ []) [] ne
    ∙ (are t ∙ (sym (other_more t (numbered 0 (take k run)) l (λ e. ne (sym e))) ∙ sym more)))
    (cases_eq t s)

-- ---- the first line of a thread

pub record Split (t : ℕ) (lines : List NumberedLine) (l : NumberedLine) (more : List NumberedLine) : Type 0 where
  pub before : List NumberedLine
  pub later : List NumberedLine
  pub is : lines ≡ before ++ l ∷ later
  pub others : AreOthers t before
  pub left : lines_of t later ≡ more

pub split_first : (t : ℕ) (lines : List NumberedLine) (l : NumberedLine) (left : List NumberedLine)
    → lines_of t lines ≡ l ∷ left → Split t lines l left
split_first t [] l left e = absurd (cc)
split_first t (m ∷ lines) l left e = ⊎_elim
    (λ same. let both : m ∷ lines_of t lines ≡ l ∷ left = sym (own t m lines same) ∙ e in record {
      before = [];
      later = lines;
      is = let first : m ≡ l = cc in ap (λ x. x ∷ lines) first;
      others = All-nil (λ x. thread_of x.line ≡ t → ⊥);
      left = cc;
    })
    (λ ne. let its = split_first t lines l left (sym (other t m lines ne) ∙ e) in record {
      before = m ∷ its.before;
      later = its.later;
      is = ap (λ ls. m ∷ ls) its.is;
      others = All-cons (λ x. thread_of x.line ≡ t → ⊥) m its.before ne its.others;
      left = its.left;
    })
    (cases_eq (thread_of m.line) t)

-- ---- all lines

pub own_lines : (t : ℕ) (lines : List NumberedLine) → All (λ m. thread_of m.line ≡ t) lines → lines_of t lines ≡ lines
own_lines t [] all = refl
own_lines t (l ∷ lines) all = own t l lines (All-head (λ m. thread_of m.line ≡ t) l lines all)
    ∙ ap (λ ls. l ∷ ls) (own_lines t lines (All-tail (λ m. thread_of m.line ≡ t) l lines all))

pub other_lines : (t u : ℕ) (lines : List NumberedLine) → All (λ m. thread_of m.line ≡ t) lines → (u ≡ t → ⊥)
    → lines_of u lines ≡ []
other_lines t u lines all ne = no_others u lines
    (λ k d lt is. ne (sym is ∙ all k d lt))

pub no_lines_in_threads : (lines : List NumberedLine) → ((t : ℕ) → lines_of t lines ≡ []) → lines ≡ []
no_lines_in_threads [] none = refl
no_lines_in_threads (l ∷ lines) none =
    let its = own (thread_of l.line) l lines refl in let no = none (thread_of l.line) in absurd (cc)
