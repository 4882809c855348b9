-- Ends of one ring.
use Rattle.std.proofs.Common.{◌∙◌, ℕ, List, ap, subst, sym}
use Rattle.ring_words.specs.Open.{ClaimAt}
use Rattle.ring_table.specs.declared.view.View.{View}
use Rattle.ring_rings.specs.Seats.{OpensNoneAt}
use Rattle.ring_ends.specs.Claiming.{AreAllOpen, KeepsNumbered, NumberedClaims}
use Rattle.ring_ends.specs.End.{AreOfOneRing, End, OpensNone}

pub one_ring : (p q r : End) → AreOfOneRing p q → AreOfOneRing q r → AreOfOneRing p r
one_ring p q r first second = second ∙ ap (λ (e : End). record e { view = r.view }) first

-- whether claims are open depends on the capacity, which is the ring's
pub open_of : (p q : End) (claims : List ClaimAt) → AreOfOneRing p q → AreAllOpen p.capacity q.view claims
    → AreAllOpen q.capacity q.view claims
open_of p q claims same are =
    subst (λ C. AreAllOpen C q.view claims) (sym (ap (λ (e : End). e.capacity) same)) are

-- Two calls after each other, of which none opens a claim ---------------------------

pub opens_none_on : (C : ℕ) (u v w : View) → OpensNoneAt C u v → OpensNoneAt C v w → OpensNoneAt C u w
opens_none_on C u v w first then = record {
  holdings = record {
    claims = λ t h. then.holdings.claims t (first.holdings.claims t h);
    shares = then.holdings.shares ∙ first.holdings.shares;
  };
  open_claims = then.open_claims ∙ first.open_claims;
}

pub opens_none : (p q r : End) → OpensNone p q → OpensNone q r → OpensNone p r
opens_none p q r first then = (
  one_ring p q r first.0 then.0,
  opens_none_on p.capacity p.view q.view r.view first.1
      (subst (λ C. OpensNoneAt C q.view r.view) (ap (λ (e : End). e.capacity) first.0) then.1),
)

pub keeps_on : (p q r : NumberedClaims) → KeepsNumbered p q → KeepsNumbered q r → KeepsNumbered p r
keeps_on p q r first then = (then.0 ∙ first.0, opens_none p.end q.end r.end first.1 then.1)
