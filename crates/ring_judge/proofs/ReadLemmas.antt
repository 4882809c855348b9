-- What the lines of a run that were read explain.
use Rattle.std.proofs.Common.{◌≡◌, ℕ, ◌+◌, ◌<◌, ◌≤◌, List, [], ◌∷◌, ◌++◌, length, take, drop, get_or, sym, ap, ◌∙◌, subst, append_assoc, arith, take-append-drop, append-nil, take_all}
use Rattle.ring_judge.specs.declared.broadcast.{ReceiverEvent.ReceiverEvent, BroadcastLine.BroadcastLine}
use Rattle.ring_judge.specs.{declared.broadcast.place.Place.Place, Verdicts.IsFirstUnexplained}
use Rattle.ring_judge.specs.Broadcast.{transmitted_in, events_of, Receives, IsExplained, CanNote, LeadsTo, EndsAt, AreWithin, anywhere, place_of}
use Rattle.ring_judge.proofs.EventLemmas.{can_be_next}
use Rattle.ring_judge.proofs.PlaceLemmas.{events_of-append, events_more, joined, stays}

-- the first k lines lead the receivers to these places
pub record AreRead (run : List BroadcastLine) (k : ℕ) (places : List Place) : Type 0 where
  pub within : AreWithin (length (transmitted_in run)) places
  pub leads : (r : ℕ) → LeadsTo (transmitted_in run) anywhere (events_of r (take k run)) (place_of places r)

pub none_read : (run : List BroadcastLine) (places : List Place) → ((r : ℕ) → place_of places r ≡ anywhere)
    → AreRead run 0 places
none_read run places same = record {
  within = λ r. subst (λ (p : Place). p.next ≤ length (transmitted_in run)) (sym (same r)) (omega arith);
  leads = λ r. subst (LeadsTo (transmitted_in run) anywhere []) (sym (same r)) (stays (transmitted_in run) anywhere);
}

pub one_more : (run : List BroadcastLine) (k : ℕ) (d : BroadcastLine) (places after : List Place) → k < length run
    → AreRead run k places → AreWithin (length (transmitted_in run)) after
    → ((r : ℕ) → LeadsTo (transmitted_in run) (place_of places r) (events_of r (get_or run k d ∷ [])) (place_of after r))
    → AreRead run (k + 1) after
one_more run k d places after lt read within leads = record {
  within = within;
  leads = λ r. subst
      (λ (events : List ReceiverEvent). LeadsTo (transmitted_in run) anywhere events (place_of after r))
      (sym (events_more r run k d lt))
      (joined (transmitted_in run) anywhere (place_of places r) (place_of after r) (events_of r (take k run))
      (events_of r (get_or run k d ∷ [])) (read.leads r) (leads r));
}

pub explained : (run : List BroadcastLine) (k : ℕ) (places : List Place) → AreRead run k places
    → IsExplained run (take k run)
explained run k places read = λ r. let place = place_of places r in
    let noted = (read.leads r).backward [] (
      place.next,
      record { within = read.within r; is_there = can_be_next place },
      tt,
    ) in (
      noted.0,
      noted.1.within,
      subst (Receives (transmitted_in run) noted.0 0) (append-nil (events_of r (take k run))) noted.2,
    )

pub explained_all : (run : List BroadcastLine) (k : ℕ) (places : List Place) → length run ≤ k → AreRead run k places
    → IsExplained run run
explained_all run k places le read = subst (IsExplained run) (take_all k run le) (explained run k places read)

-- a receiver at whose place some events cannot be noted does not explain lines that begin so
unexplained : (run lines : List BroadcastLine) (r : ℕ) (p : Place) (xs ys later : List ReceiverEvent)
    → LeadsTo (transmitted_in run) anywhere xs p → EndsAt (transmitted_in run) p ys
    → events_of r lines ≡ (xs ++ ys) ++ later → IsExplained run lines → ⊥
unexplained run lines r p xs ys later leads ends e is = let its = is r in let bodies = transmitted_in run in
    let least : 0 ≤ its.0 = omega arith in
    let noted : CanNote bodies anywhere (events_of r lines) =
    (its.0, record { within = its.1; is_there = least }, its.2) in
    ends later (leads.forward (ys ++ later)
    (subst (CanNote bodies anywhere) (e ∙ append_assoc xs ys later) noted))

pub first_unexplained : (run : List BroadcastLine) (k : ℕ) (d : BroadcastLine) (places : List Place) (r : ℕ)
    → k < length run → AreRead run k places
    → EndsAt (transmitted_in run) (place_of places r) (events_of r (get_or run k d ∷ [])) → IsFirstUnexplained IsExplained run k
first_unexplained run k d places r lt read ends =
    let xs = events_of r (take k run) in let ys = events_of r (get_or run k d ∷ []) in
    let rest = events_of r (drop (k + 1) run) in
    let more : events_of r (take (k + 1) run) ≡ xs ++ ys = events_more r run k d lt in
    let all : events_of r run ≡ (xs ++ ys) ++ rest = ap (events_of r) (sym (take-append-drop (k + 1) run))
    ∙ (events_of-append r (take (k + 1) run) (drop (k + 1) run) ∙ ap (λ l. l ++ rest) more) in
    record {
      within = lt;
      before = explained run k places read;
      at_line = unexplained run (take (k + 1) run) r (place_of places r) xs ys [] (read.leads r) ends
          (more ∙ sym (append-nil (xs ++ ys)));
      whole = unexplained run run r (place_of places r) xs ys rest (read.leads r) ends all;
    }
