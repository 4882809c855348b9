-- What is read by its type id.
use Rattle.std.proofs.Common.{◌≡◌, ◌≢◌, ℤ, Bool, true, false, cond, List, ℕ, Option, Some, None, Result, Ok, Err, Decides, refl, sym, subst, int_eq}
use Rattle.std.proofs.lemmas.Bool.Decides.{Decides-int_eq, not_from_Decides}
use Rattle.ring_protocol.specs.declared.fault.Bad.{Bad, TheVariants.Malformed}
use Rattle.ring_protocol.specs.Bad.{correlation_of, or_malformed, IsFaultOf}
use Rattle.ring_protocol.specs.Field.{AreBytes, Reader, whole}
use Rattle.ring_protocol.proofs.Readers.{IsReaderOf, whole_takes}

chosen : {X P Q : Type 0} (b : Bool) (this others : X) (r : X) → Decides b Q → cond b this others ≡ r
    → (Q → this ≡ r → P) → (¬ Q → others ≡ r → P) → P
chosen true this others r d e here there = here (d.0 refl) e
chosen false this others r d e here there = there (not_from_Decides false d refl) e

at_type : {X P : Type 0} (t n : ℤ) (this others r : X) → cond (int_eq t n) this others ≡ r → (t ≡ n → this ≡ r → P)
    → (t ≢ n → others ≡ r → P) → P
at_type t n this others r e here there = chosen (int_eq t n) this others r (Decides-int_eq t n) e here there

or_malformed_ok : {X : Type 0} (body : List ℕ) (o : Option X) (x : X) → or_malformed body o ≡ Ok x → o ≡ Some x
or_malformed_ok body (Some y) x e = cc
or_malformed_ok body None x e = absurd cc

or_malformed_err : {X : Type 0} (body : List ℕ) (o : Option X) (bad : Bad) → or_malformed body o ≡ Err bad
    → bad ≡ Malformed (correlation_of body)
or_malformed_err body (Some y) bad e = absurd cc
or_malformed_err body None bad e = cc

-- what is read at one type id or at the others is what the type id and the body spell
pub takes_at : {V X : Type 0} {P : V → Type 0} {field : V → List ℕ} {reader : Reader V} → IsReaderOf P field reader
    → (made : V → X) (n : ℤ) (Spells : ℤ → List ℕ → X → Type 0) → ((v : V) → P v → Spells n (field v) (made v))
    → (t : ℤ) (body : List ℕ) (others : Result X Bad) (x : X) → AreBytes body
    → cond (int_eq t n) (or_malformed body (whole made reader body)) others ≡ Ok x
    → (others ≡ Ok x → Spells t body x) → Spells t body x
takes_at is made n Spells spelled t body others x fit e there =
    at_type t n _ _ _ e (λ at this.
    subst (λ (k : ℤ). Spells k body x) (sym at)
    (whole_takes is made (Spells n) spelled body x fit (or_malformed_ok body _ x this))) (λ _ h. there h)

-- and why nothing is read, if the message x would be of the one type id
pub fault_at : {X : Type 0} (type_id_of : X → ℤ) (x : X) (t : ℤ) (body : List ℕ) (o : Option X) (others : Result X Bad)
    (bad : Bad)
    → cond (int_eq t (type_id_of x)) (or_malformed body o) others ≡ Err bad
    → (t ≢ type_id_of x → others ≡ Err bad → IsFaultOf ((y : X) × (type_id_of y ≡ t)) body bad)
    → IsFaultOf ((y : X) × (type_id_of y ≡ t)) body bad
fault_at {X} type_id_of x t body o others bad e there =
    at_type t (type_id_of x) _ _ _ e (λ at this.
    subst (IsFaultOf ((y : X) × (type_id_of y ≡ t)) body) (sym (or_malformed_err body o bad this)) ((x, sym at), refl))
    there
