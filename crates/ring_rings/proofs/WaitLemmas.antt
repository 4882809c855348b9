-- Tries that were Contended.
use Rattle.std.proofs.Common.{ℕ, ℤ, List, [], ◌∷◌, ◌++◌, refl, subst}
use Rattle.ring_words.specs.Open.{ClaimAt}
use Rattle.ring_table.specs.declared.view.View.{View}
use Rattle.ring_rings.specs.declared.{ring.Ring.Ring, bodies.Bodies.Ghosts, ring.Producer.Producer}
use Rattle.ring_rings.specs.Claiming.{AreContended, Contends}
use Rattle.ring_rings.specs.Seats.{capacity_of, view_of, IsOpenClaimOf, IsProducerOf}

-- the tries so far were Contended, and the producer has the claims that it had
pub record Tried {K B : Type 0} {G : Ghosts B} (ring : Ring K B G) (type_id : ℤ) (len : ℕ) (old now : Producer) : Type 0 where
  pub producer : IsProducerOf ring now
  pub tries : List (ℕ × ℕ)
  pub contended : AreContended (capacity_of ring) type_id len tries (view_of old) (view_of now)
  pub claims : (t : ClaimAt) → IsOpenClaimOf ring old t → IsOpenClaimOf ring now t

pub contended_more : (C : ℕ) (type_id : ℤ) (len : ℕ) (ts : List (ℕ × ℕ)) (u v w : View) (tail seen : ℕ)
    → AreContended C type_id len ts u v → Contends C type_id len v tail seen w
    → AreContended C type_id len (ts ++ (tail, seen) ∷ []) u w
contended_more C type_id len [] u v w tail seen all more =
    (w, subst (λ (x : View). Contends C type_id len x tail seen w) all more, refl)
contended_more C type_id len (t ∷ ts) u v w tail seen all more =
    (all.0, all.1, contended_more C type_id len ts all.0 v w tail seen all.2 more)

pub tried_none : {K B : Type 0} {G : Ghosts B} (ring : Ring K B G) (type_id : ℤ) (len : ℕ) (p : Producer) → IsProducerOf ring p
    → Tried ring type_id len p p
tried_none ring type_id len p of = record { producer = of; tries = []; contended = refl; claims = λ t h. h }

pub tried_more : {K B : Type 0} {G : Ghosts B} (ring : Ring K B G) (type_id : ℤ) (len : ℕ) (old mid now : Producer) (tail seen : ℕ)
    → Tried ring type_id len old mid → IsProducerOf ring now
    → Contends (capacity_of ring) type_id len (view_of mid) tail seen (view_of now)
    → ((t : ClaimAt) → IsOpenClaimOf ring mid t → IsOpenClaimOf ring now t) → Tried ring type_id len old now
tried_more ring type_id len old mid now tail seen t of contends keeps = record {
  producer = of;
  tries = t.tries ++ (tail, seen) ∷ [];
  contended = contended_more (capacity_of ring) type_id len t.tries (view_of old) (view_of mid)
      (view_of now) tail seen t.contended contends;
  claims = λ u h. keeps u (t.claims u h);
}
