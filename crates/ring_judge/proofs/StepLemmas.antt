-- The lines of a run of a ring, one after another.
use Rattle.std.proofs.Common.{◌≡◌, ℕ, ◌+◌, ◌<◌, ◌≤◌, List, [], ◌∷◌, ◌++◌, length, take, drop, get_or, sym, refl, ap, ◌∙◌, subst, append_assoc, pos, take-append-drop, take_all}
use Rattle.std.proofs.lemmas.List.{take_more}
use Rattle.ring_judge.specs.declared.ring.{RingLine.RingLine, RingLine.TheVariants.Claimed, Fate.TheVariants.Open}
use Rattle.ring_judge.specs.Ring.{RingState, Allows, Records, after, after_all, fresh, IsExplained}
use Rattle.ring_judge.specs.Verdicts.{IsFirstUnexplained}

records-append : (C : ℕ) (s : RingState) (xs ys : List RingLine) → Records C s xs → Records C (after_all C s xs) ys
    → Records C s (xs ++ ys)
records-append C s [] ys first second = second
records-append C s (x ∷ xs) ys first second = (first.0, records-append C (after C s x) xs ys first.1 second)

records-rest : (C : ℕ) (s : RingState) (xs ys : List RingLine) → Records C s (xs ++ ys)
    → Records C (after_all C s xs) ys
records-rest C s [] ys both = both
records-rest C s (x ∷ xs) ys both = records-rest C (after C s x) xs ys both.1

after_all-append : (C : ℕ) (s : RingState) (xs ys : List RingLine)
    → after_all C s (xs ++ ys) ≡ after_all C (after_all C s xs) ys
after_all-append C s [] ys = refl
after_all-append C s (x ∷ xs) ys = after_all-append C (after C s x) xs ys

-- the first k lines were recorded, and lead to this state
pub record AreRecorded (C start : ℕ) (run : List RingLine) (k : ℕ) (s : RingState) : Type 0 where
  pub recorded : Records C (fresh start) (take k run)
  pub state : after_all C (fresh start) (take k run) ≡ s

pub one_more : (C start : ℕ) (run : List RingLine) (k : ℕ) (d : RingLine) (s : RingState) → k < length run
    → AreRecorded C start run k s → Allows C s (get_or run k d)
    → AreRecorded C start run (k + 1) (after C s (get_or run k d))
one_more C start run k d s lt before allowed = let line = get_or run k d in
    let there : Allows C (after_all C (fresh start) (take k run)) line =
    subst (λ (t : RingState). Allows C t line) (sym before.state) allowed in record {
      recorded = subst (Records C (fresh start)) (sym (take_more run k d lt))
          (records-append C (fresh start) (take k run) (line ∷ []) before.recorded (there, tt));
      state = ap (after_all C (fresh start)) (take_more run k d lt)
          ∙ (after_all-append C (fresh start) (take k run) (line ∷ [])
          ∙ ap (λ t. after C t line) before.state);
    }

pub all_recorded : (C start : ℕ) (run : List RingLine) (k : ℕ) (s : RingState) → length run ≤ k
    → AreRecorded C start run k s → IsExplained C start run run
all_recorded C start run k s le before = subst (Records C (fresh start)) (take_all k run le) before.recorded

pub first_refused : (C start : ℕ) (run : List RingLine) (k : ℕ) (d : RingLine) (s : RingState) → k < length run
    → AreRecorded C start run k s → (Allows C s (get_or run k d) → ⊥)
    → IsFirstUnexplained (IsExplained C start) run k
first_refused C start run k d s lt before refused = let line = get_or run k d in
    let none : (lines : List RingLine) → Records C (fresh start) (take k run ++ line ∷ lines) → ⊥ =
    λ lines all. refused (subst (λ (t : RingState). Allows C t line) before.state
    (records-rest C (fresh start) (take k run) (line ∷ lines) all).0) in
    record {
      within = lt;
      before = before.recorded;
      at_line = λ all. none [] (subst (Records C (fresh start)) (take_more run k d lt) all);
      whole = λ all. none (drop (k + 1) run) (subst (Records C (fresh start))
          (sym (take-append-drop (k + 1) run) ∙ (ap (λ l. l ++ drop (k + 1) run) (take_more run k d lt)
          ∙ append_assoc (take k run) (line ∷ []) (drop (k + 1) run))) all);
    }

-- the line in place of what is past the end of a run
abbrev pub past : RingLine
past = Claimed record { producer = 0; place = 0; type_id = pos 0; length = 0; fate = Open }
