-- Where a line leads all receivers.
use Rattle.std.proofs.Common.{◌≡◌, ℕ, ◌+◌, ◌<◌, ◌≤◌, List, [], ◌∷◌, ◌++◌, length, take, get_or, set, Bool, true, false, zero, suc, eqb, sym, refl, ap, ◌∙◌, ⊎_elim, subst, append_assoc, arith, get_or-set_other, get_or-set_same, eq-eqb, ne_eqb}
use Rattle.std.proofs.lemmas.{Bool.cases_eq, Bool.cond-true, Bool.cond-false, List.take_more}
use Rattle.ring_judge.specs.declared.broadcast.{ReceiverEvent.ReceiverEvent, BroadcastLine.BroadcastLine}
use Rattle.ring_judge.specs.declared.broadcast.BroadcastLine.TheVariants.{Transmitted, Receiver, Blank}
use Rattle.ring_judge.specs.declared.broadcast.place.Place.{Place}
use Rattle.ring_judge.specs.Broadcast.{transmitted_in, events_of, CanNote, LeadsTo, EndsAt, AnswersEvent, AnswersLine, AreWithin, IsOfReceiverBelow, anywhere, place_of}

-- ---- what the lines say

events_of-own : (r s : ℕ) (event : ReceiverEvent) (run : List BroadcastLine) → s ≡ r
    → events_of r (Receiver s event ∷ run) ≡ event ∷ events_of r run
events_of-own r s event run e = cond-true (eqb s r) (event ∷ events_of r run) (events_of r run) (eq-eqb s r e)

events_of-other : (r s : ℕ) (event : ReceiverEvent) (run : List BroadcastLine) → (s ≡ r → ⊥)
    → events_of r (Receiver s event ∷ run) ≡ events_of r run
events_of-other r s event run ne = cond-false (eqb s r) (event ∷ events_of r run) (events_of r run) (ne_eqb s r ne)

pub events_of-append : (r : ℕ) (xs ys : List BroadcastLine)
    → events_of r (xs ++ ys) ≡ events_of r xs ++ events_of r ys
events_of-append r [] ys = refl
events_of-append r (Transmitted body ∷ xs) ys = events_of-append r xs ys
events_of-append r (Receiver s event ∷ xs) ys = ⊎_elim
    (λ e. events_of-own r s event (xs ++ ys) e ∙ (ap (λ l. event ∷ l) (events_of-append r xs ys)
    ∙ ap (λ l. l ++ events_of r ys) (sym (events_of-own r s event xs e))))
    (λ ne. events_of-other r s event (xs ++ ys) ne ∙ (events_of-append r xs ys
    ∙ ap (λ l. l ++ events_of r ys) (sym (events_of-other r s event xs ne))))
    (cases_eq s r)
events_of-append r (Blank ∷ xs) ys = events_of-append r xs ys

pub events_more : (r : ℕ) (run : List BroadcastLine) (k : ℕ) (d : BroadcastLine) → k < length run
    → events_of r (take (k + 1) run) ≡ events_of r (take k run) ++ events_of r (get_or run k d ∷ [])
events_more r run k d lt = ap (events_of r) (take_more run k d lt)
    ∙ events_of-append r (take k run) (get_or run k d ∷ [])

transmitted_in-append : (xs ys : List BroadcastLine)
    → transmitted_in (xs ++ ys) ≡ transmitted_in xs ++ transmitted_in ys
transmitted_in-append [] ys = refl
transmitted_in-append (Transmitted body ∷ xs) ys = ap (λ l. body ∷ l) (transmitted_in-append xs ys)
transmitted_in-append (Receiver s event ∷ xs) ys = transmitted_in-append xs ys
transmitted_in-append (Blank ∷ xs) ys = transmitted_in-append xs ys

pub transmitted_more : (run : List BroadcastLine) (k : ℕ) (d : BroadcastLine) → k < length run
    → transmitted_in (take (k + 1) run) ≡ transmitted_in (take k run) ++ transmitted_in (get_or run k d ∷ [])
transmitted_more run k d lt = ap transmitted_in (take_more run k d lt)
    ∙ transmitted_in-append (take k run) (get_or run k d ∷ [])

pub IsOfReceiverBelow-larger : (count larger : ℕ) (line : BroadcastLine) → count ≤ larger
    → IsOfReceiverBelow count line → IsOfReceiverBelow larger line
IsOfReceiverBelow-larger count larger (Transmitted body) le below = tt
IsOfReceiverBelow-larger count larger (Receiver r event) le below = omega arith
IsOfReceiverBelow-larger count larger Blank le below = tt

-- ---- where they lead

pub stays : (bodies : List ℕ) (p : Place) → LeadsTo bodies p [] p
stays bodies p = record { forward = λ later noted. noted; backward = λ later noted. noted }

pub joined : (bodies : List ℕ) (p q s : Place) (xs ys : List ReceiverEvent) → LeadsTo bodies p xs q
    → LeadsTo bodies q ys s → LeadsTo bodies p (xs ++ ys) s
joined bodies p q s xs ys first second = record {
  forward = λ later noted. second.forward later
      (first.forward (ys ++ later) (subst (CanNote bodies p) (append_assoc xs ys later) noted));
  backward = λ later noted. subst (CanNote bodies p) (sym (append_assoc xs ys later))
      (first.backward (ys ++ later) (second.backward later noted));
}

-- the receiver s goes to the place q
own_leads : (bodies : List ℕ) (places : List Place) (s : ℕ) (event : ReceiverEvent) (q : Place) → s < length places
    → LeadsTo bodies (place_of places s) (event ∷ []) q
    → LeadsTo bodies (place_of places s) (events_of s (Receiver s event ∷ [])) (place_of (set places s q) s)
own_leads bodies places s event q lt leads =
    subst (λ (events : List ReceiverEvent). LeadsTo bodies (place_of places s) events (place_of (set places s q) s))
    (sym (events_of-own s s event [] refl))
    (subst (LeadsTo bodies (place_of places s) (event ∷ [])) (sym (get_or-set_same places s q anywhere lt)) leads)

-- and another one stays
other_leads : (bodies : List ℕ) (places : List Place) (r s : ℕ) (event : ReceiverEvent) (q : Place) → (r ≡ s → ⊥)
    → LeadsTo bodies (place_of places r) (events_of r (Receiver s event ∷ [])) (place_of (set places s q) r)
other_leads bodies places r s event q ne =
    subst (λ (events : List ReceiverEvent). LeadsTo bodies (place_of places r) events (place_of (set places s q) r))
    (sym (events_of-other r s event [] (λ e. ne (sym e))))
    (subst (LeadsTo bodies (place_of places r) []) (sym (get_or-set_other places s r q anywhere ne))
    (stays bodies (place_of places r)))

pub event_answered : (bodies : List ℕ) (places : List Place) (s : ℕ) (event : ReceiverEvent) (q : Place) (answer : Bool)
    → s < length places → AnswersEvent bodies (place_of places s) event q answer
    → AnswersLine bodies places (Receiver s event) (set places s q) answer
event_answered bodies places s event q true lt leads = λ r. ⊎_elim
    (λ e. subst (λ (t : ℕ). LeadsTo bodies (place_of places t) (events_of t (Receiver s event ∷ []))
    (place_of (set places s q) t)) (sym e) (own_leads bodies places s event q lt leads))
    (λ ne. other_leads bodies places r s event q ne) (cases_eq r s)
event_answered bodies places s event q false lt ends =
    (s, subst (EndsAt bodies (place_of places s)) (sym (events_of-own s s event [] refl)) ends)

pub within_set : (total : ℕ) (places : List Place) (s : ℕ) (q : Place) → s < length places → AreWithin total places
    → q.next ≤ total → AreWithin total (set places s q)
within_set total places s q lt within fits = λ r. ⊎_elim
    (λ e. subst (λ (t : ℕ). (place_of (set places s q) t).next ≤ total) (sym e)
    (subst (λ (p : Place). p.next ≤ total) (sym (get_or-set_same places s q anywhere lt)) fits))
    (λ ne. subst (λ (p : Place). p.next ≤ total) (sym (get_or-set_other places s r q anywhere ne)) (within r))
    (cases_eq r s)

-- a receiver more at the default place
pub get_or-append_default : (places : List Place) (d : Place) (r : ℕ) → get_or (places ++ d ∷ []) r d ≡ get_or places r d
get_or-append_default [] d zero = refl
get_or-append_default [] d (suc r) = refl
get_or-append_default (p ∷ places) d zero = refl
get_or-append_default (p ∷ places) d (suc r) = get_or-append_default places d r
