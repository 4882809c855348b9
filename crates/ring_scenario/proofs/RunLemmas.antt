-- How lines run one after another.
use Rattle.std.proofs.Common.{◌≡◌, ◌∙◌, ℕ, ◌+◌, List, [], ◌∷◌, ◌++◌, IfSome, Option, None, Some, refl, sym, ap, subst, arith, append_assoc, append-nil, length, length-append}
use Rattle.std.{proofs.KnownBytes.Appends-nil, proofs.KnownBytes.Appends-trans, specs.Io.KnownBytes.Appends}
use Rattle.ring_scenario.{specs.Cutting.lines_of, proofs.CuttingLemmas.one_more}
use Rattle.ring_scenario.specs.declared.runner.{Ended.Ended, Runner.Runner}
use Rattle.ring_scenario.specs.Running.{BeginsBad, EndsAs, HaveRun, RunsAndEnds, RunsLine, RunsLines, RunsToEnd, StopsAt, end_text, ended_text, finished_text}

-- what holds of a text, if it is known
pub of_known : (known : Option (List ℕ)) (P Q : List ℕ → Type 0) → ((text : List ℕ) → P text → Q text)
    → IfSome known P → IfSome known Q
of_known None P Q f p = p
of_known (Some text) P Q f p = f text p

-- one more line ran
pub then_one : (taken : List (List ℕ)) (line : List ℕ) (a b c : Runner) (t s : List ℕ) → RunsLines taken a b t
    → RunsLine line b c s → RunsLines (taken ++ line ∷ []) a c (t ++ s)
then_one [] line a b c t s none runs =
    subst (λ x. RunsLines (line ∷ []) x c (t ++ s)) none.0
    (subst (λ x. RunsLines (line ∷ []) b c (x ++ s)) (sym none.1)
    (c, s, [], runs, (refl, refl), sym (append-nil s)))
then_one (first ∷ more) line a b c t s all runs = (
  all.0,
  all.1,
  all.2 ++ s,
  all.3,
  then_one more line all.0 b c all.2 s all.4 runs,
  ap (λ x. x ++ s) all.5 ∙ append_assoc all.1 all.2 s,
)

-- no line ran yet
abbrev pub none_ran : (lines : List (List ℕ)) (r : Runner) (now : Option (List ℕ)) → HaveRun lines lines r r now now
none_ran lines r now =
    record { taken = []; whole = refl; printed = []; runs = (refl, refl); written = Appends-nil now }

abbrev pub one_more_ran : (all left next : List (List ℕ)) (line : List ℕ) (a b c : Runner)
    (was now later : Option (List ℕ)) (text : List ℕ) → HaveRun all left a b was now → left ≡ line ∷ next
    → RunsLine line b c text → Appends now later text → HaveRun all next a c was later
one_more_ran all left next line a b c was now later text ran cut runs written = record {
  taken = ran.taken ++ line ∷ [];
  whole = one_more all ran.taken left line next ran.whole cut;
  printed = ran.printed ++ text;
  runs = then_one ran.taken line a b c ran.printed text ran.runs runs;
  written = Appends-trans was now later ran.printed text ran.written written;
}

-- a run stopped at its next line
pub stops_here : (all left : List (List ℕ)) (a b : Runner) (was now : Option (List ℕ)) (taken number : ℕ)
    → (ran : HaveRun all left a b was now) × (taken ≡ length ran.taken) → number ≡ taken + 1 → BeginsBad b left
    → StopsAt all a was now number
stops_here all left a b was now taken number ran next bad =
    record { left = left; last = b; ran = ran.0; bad = bad; counted = let is = ran.1 in omega (arith, is, next) }

-- one more was counted
pub counted_one_more : (taken : List (List ℕ)) (line : List ℕ) (n m : ℕ) → n ≡ length taken → m ≡ n + 1
    → m ≡ length (taken ++ line ∷ [])
counted_one_more taken line n m is next = let more = length-append taken (line ∷ []) in omega (arith, is, next, more)

-- the lines of a text ran up to its `end`, and what that prints was written
pub text_ended : (text old new : List ℕ) (r s : Runner) (e : Ended) (was now later : Option (List ℕ)) (number : ℕ)
    → old ≡ text → RunsToEnd old new r s was now number → EndsAs s e → Appends now later (ended_text e)
    → RunsAndEnds (lines_of text) (lines_of new) r was later number
text_ended text old new r s e was now later number same ran ends written = record {
  before = ran.ran.taken;
  line = ran.line;
  whole = ap lines_of (sym same) ∙ ran.ran.whole;
  end_alone = ran.end_alone;
  counted = ran.counted;
  last = s;
  printed = ran.ran.printed;
  runs = ran.ran.runs;
  ended = e;
  ends = ends;
  written = Appends-trans was now later ran.ran.printed (ended_text e) ran.ran.written written;
}

-- both lines of `end` were written
pub end_written : (e : Ended) (was between now : Option (List ℕ)) (first second : List ℕ) → first ≡ end_text e
    → second ≡ finished_text e.served → Appends was between first → Appends between now second
    → Appends was now (ended_text e)
end_written e was between now first second is_first is_second wrote_first wrote_second =
    subst (λ x. Appends was now (x ++ finished_text e.served)) is_first
    (subst (λ x. Appends was now (first ++ x)) is_second
    (Appends-trans was between now first second wrote_first wrote_second))
