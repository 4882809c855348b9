-- Where each event of a receiver leads.
use Rattle.std.proofs.Common.{◌≡◌, ℕ, ◌+◌, ◌-◌, ◌<◌, ◌≤◌, List, [], ◌∷◌, length, Some, Bool, true, false, sym, refl, ap, ◌∙◌, subst, arith, MatchBool, slice_get}
use Rattle.std.proofs.lemmas.Option.{slice_get_within}
use Rattle.ring_judge.specs.declared.broadcast.{MessageCopy.MessageCopy, place.Place.Place}
use Rattle.ring_judge.specs.declared.broadcast.ReceiverEvent.TheVariants.{Copied, Lapped, Empty}
use Rattle.ring_judge.specs.Broadcast.{Receives, LeadsTo, EndsAt}

-- the message can be the next one of a receiver at this place
abbrev pub CanBeAt : Place → ℕ → Type 0
CanBeAt p n = MatchBool p.is_open (p.next ≤ n) (p.next ≡ n)

at_least : (b : Bool) (x n : ℕ) → MatchBool b (x ≤ n) (x ≡ n) → x ≤ n
at_least true x n is_there = is_there
at_least false x n is_there = let e : x ≡ n = is_there in omega (arith, e)

at_itself : (b : Bool) (x : ℕ) → MatchBool b (x ≤ x) (x ≡ x)
at_itself true x = omega arith
at_itself false x = refl

pub can_be_next : (p : Place) → CanBeAt p p.next
can_be_next p = at_itself p.is_open p.next

pub copied_leads : (bodies : List ℕ) (p : Place) (m : MessageCopy) → CanBeAt p m.number
    → slice_get bodies m.number ≡ Some m.body
    → LeadsTo bodies p (Copied m ∷ []) record { next = m.number + 1; is_open = false; laps = p.laps }
copied_leads bodies p m can is = record {
  forward = λ later noted. let n = noted.0 in (
    n + 1,
    record {
      within = omega (arith, slice_get_within bodies n m.body noted.2.1);
      is_there = ap (λ k. k + 1) noted.2.0;
    },
    noted.2.2,
  );
  backward = λ later noted. let e : m.number + 1 ≡ noted.0 = noted.1.is_there in (
    m.number,
    record { within = omega (arith, slice_get_within bodies m.number m.body is); is_there = can },
    (refl, is, subst (λ (n : ℕ). Receives bodies n p.laps later) (sym e) noted.2),
  );
}

pub copied_elsewhere : (bodies : List ℕ) (p : Place) (m : MessageCopy) → (CanBeAt p m.number → ⊥)
    → EndsAt bodies p (Copied m ∷ [])
copied_elsewhere bodies p m cannot later noted =
    cannot (subst (CanBeAt p) (sym noted.2.0) noted.1.is_there)

pub copied_otherwise : (bodies : List ℕ) (p : Place) (m : MessageCopy)
    → (slice_get bodies m.number ≡ Some m.body → ⊥) → EndsAt bodies p (Copied m ∷ [])
copied_otherwise bodies p m other later noted = other (ap (slice_get bodies) noted.2.0 ∙ noted.2.1)

pub lapped_leads : (bodies : List ℕ) (p : Place) (count : ℕ) → p.laps < count
    → p.next + (count - p.laps) ≤ length bodies
    → LeadsTo bodies p (Lapped count ∷ []) record { next = p.next + (count - p.laps); is_open = true; laps = count }
lapped_leads bodies p count rises fits = record {
  forward = λ later noted. let lap = noted.2.1 in
      let least : p.next ≤ noted.0 = at_least p.is_open p.next noted.0 noted.1.is_there in (
        noted.2.0,
        record { within = lap.within; is_there = omega (arith, least, lap.misses, rises) },
        noted.2.2,
      );
  backward = λ later noted. let least : p.next + (count - p.laps) ≤ noted.0 = noted.1.is_there in (
    p.next,
    record { within = omega (arith, fits); is_there = can_be_next p },
    (
      noted.0,
      record { rises = rises; misses = omega (arith, least, rises); within = noted.1.within },
      noted.2,
    ),
  );
}

pub lapped_ends : (bodies : List ℕ) (p : Place) (count : ℕ)
    → (p.laps < count → p.next + (count - p.laps) ≤ length bodies → ⊥) → EndsAt bodies p (Lapped count ∷ [])
lapped_ends bodies p count cannot later noted = let lap = noted.2.1 in
    let least : p.next ≤ noted.0 = at_least p.is_open p.next noted.0 noted.1.is_there in
    cannot lap.rises (omega (arith, least, lap.misses, lap.within, lap.rises))

pub empty_leads : (bodies : List ℕ) (p : Place) → CanBeAt p (length bodies)
    → LeadsTo bodies p (Empty ∷ []) record { next = length bodies; is_open = p.is_open; laps = p.laps }
empty_leads bodies p can = record {
  forward = λ later noted. (
    noted.0,
    record {
      within = noted.1.within;
      is_there = subst (λ (n : ℕ). MatchBool p.is_open (length bodies ≤ n) (length bodies ≡ n)) (sym noted.2.0)
          (at_itself p.is_open (length bodies));
    },
    noted.2.1,
  );
  backward = λ later noted.
      let least : length bodies ≤ noted.0 = at_least p.is_open (length bodies) noted.0 noted.1.is_there in
      let e : noted.0 ≡ length bodies = omega (arith, least, noted.1.within) in (
        noted.0,
        record { within = noted.1.within; is_there = subst (CanBeAt p) (sym e) can },
        (e, noted.2),
      );
}

pub empty_ends : (bodies : List ℕ) (p : Place) → (CanBeAt p (length bodies) → ⊥) → EndsAt bodies p (Empty ∷ [])
empty_ends bodies p cannot later noted = cannot (subst (CanBeAt p) noted.2.0 noted.1.is_there)
