-- What is asked, whatever its correlation id.
use Rattle.std.proofs.Common.{◌≡◌, ◌∙◌, ◌≤◌, ℕ, ℤ, List, length, Option, None, Some, IsSome, refl, sym, ap, subst, to_z, of_z, w32, true≢false}
use Rattle.ring_table.specs.declared.view.View.{View}
use Rattle.ring_rings.specs.Claiming.{Writing}
use Rattle.ring_service.specs.Asking.{IsSendable}
use Rattle.ring_protocol.{specs.declared.command.Request.Request, specs.Writing.Encodes, proofs.Lengths.same_length}
use Rattle.ring_protocol.specs.declared.command.Request.TheVariants.{Allocate, Free, Set, AllocateOwned, Close}
use Rattle.ring_protocol.specs.Command.{LentRequest, HasTextLengths, asked, content_of_request, request_type_id, spelling_of}

same_type : (r : Request (List ℕ)) → to_z w32 (of_z w32 (request_type_id r)) ≡ request_type_id r
same_type (Allocate type_id key label) = refl
same_type (Free id) = refl
same_type (Set id value) = refl
same_type (AllocateOwned type_id owner key label) = refl
same_type (Close owner) = refl

-- what can be sent fits into the buffer
fits : (r : LentRequest) (a room : ℕ) → room ≡ 520 → IsSendable r
    → HasTextLengths (content_of_request r) × (length (spelling_of (asked r a)) ≤ room)
fits r a room wide h = (
  h.texts,
  subst (λ n. length (spelling_of (asked r a)) ≤ n) (sym wide)
      (subst (λ n. n ≤ 520) (same_length 0 a (content_of_request r)) h.room),
)

pub too_long : (r : LentRequest) (a : ℕ) (old new : List ℕ) (o : Option ℕ) → length old ≡ 520
    → Encodes (asked r a) old new o → o ≡ None → IsSendable r → ⊥
too_long r a old new o wide e none h =
    true≢false (sym (subst IsSome none (e.fits.1 (fits r a (length old) wide h))))

pub encoded : (r : LentRequest) (a : ℕ) (old new : List ℕ) (n : ℕ) → length old ≡ 520
    → Encodes (asked r a) old new (Some n) → IsSendable r
encoded r a old new n wide e = record {
  texts = (e.fits.0 refl).0;
  room = subst (λ n. n ≤ 520) (same_length a 0 (content_of_request r))
      (subst (λ n. length (spelling_of (asked r a)) ≤ n) wide (e.fits.0 refl).1);
}

pub of_type : (r : Request (List ℕ)) (t : ℤ) → t ≡ request_type_id r → to_z w32 (of_z w32 t) ≡ request_type_id r
of_type r t is = ap (λ z. to_z w32 (of_z w32 z)) is ∙ same_type r

pub written_as : (W : Writing) (C : ℕ) (t s : ℤ) (b d : List ℕ) (v w : View) → t ≡ s → b ≡ d → W C t b v w → W C s d v w
written_as W C t s b d v w type_is body_is h =
    subst (λ x. W C x d v w) type_is (subst (λ x. W C t x v w) body_is h)

pub refused_as : {F : Type 0} (R : ℕ → ℤ → ℕ → View → F → View → Type 0) (C : ℕ) (t s : ℤ) (n m : ℕ) (v : View)
    (fault : F) (w : View) → t ≡ s → n ≡ m → R C t n v fault w → R C s m v fault w
refused_as R C t s n m v fault w type_is len_is h =
    subst (λ x. R C x m v fault w) type_is (subst (λ x. R C t x v fault w) len_is h)
