-- Each reply is read from its encoding, and from no other bytes.
use Rattle.std.proofs.Common.{◌≡◌, ◌≢◌, ℕ, ℤ, pos, List, Result, Ok, Err, refl, sym, subst, IfOk, IfErr}
use Rattle.ring_protocol.specs.declared.{fault.Bad.Bad, fault.Bad.TheVariants.UnknownType, reply.Reply.Reply}
use Rattle.ring_protocol.specs.declared.reply.Reply.TheVariants.{Allocated, Done, Refused, Closed}
use Rattle.ring_protocol.specs.{Field.AreBytes, Bad.correlation_of, Bad.IsFaultOf}
use Rattle.ring_protocol.specs.Reply.{type_id_of, spelling_of, HasSpelling, Spells, IsReplyType}
use Rattle.ring_protocol.specs.Reading.{allocated_of, done_of, refused_of, closed_of, reply_of}
use Rattle.ring_protocol.proofs.Readers.{u64_reader, u32_after, i32_after, whole_again}
use Rattle.ring_protocol.proofs.Dispatch.{takes_at, fault_at}

-- ---- what is read is spelled so

is_spelled : (r : Reply) → HasSpelling r → Spells (type_id_of r) (spelling_of r) r
is_spelled r h = record { has_spelling = h; of_type = refl; spelled = refl }

reply_takes : (t : ℤ) (body : List ℕ) (r : Reply) → AreBytes body → reply_of t body ≡ Ok r → Spells t body r
unfolding reply_of allocated_of done_of refused_of closed_of
reply_takes t body r fit e =
    takes_at u32_after (λ v. Allocated v.0 v.1) (pos 101) Spells (λ v h. is_spelled _ h) t body _ r fit e (λ e2.
    takes_at u64_reader (λ v. Done v) (pos 102) Spells (λ v h. is_spelled _ h) t body _ r fit e2 (λ e3.
    takes_at i32_after (λ v. Refused v.0 v.1) (pos 103) Spells (λ v h. is_spelled _ h) t body _ r fit e3 (λ e4.
    takes_at u32_after (λ v. Closed v.0 v.1) (pos 104) Spells (λ v h. is_spelled _ h) t body _ r fit e4 (λ e5.
    absurd cc))))

-- ---- what is spelled so is read

reply_again : (r : Reply) → HasSpelling r → reply_of (type_id_of r) (spelling_of r) ≡ Ok r
unfolding reply_of allocated_of done_of refused_of closed_of
reply_again (Allocated correlation id) h = whole_again u32_after (λ v. Allocated v.0 v.1) (correlation, id) h
reply_again (Done correlation) h = whole_again u64_reader (λ v. Done v) correlation h
reply_again (Refused correlation code) h = whole_again i32_after (λ v. Refused v.0 v.1) (correlation, code) h
reply_again (Closed correlation freed) h = whole_again u32_after (λ v. Closed v.0 v.1) (correlation, freed) h

pub spelled_again : (t : ℤ) (body : List ℕ) (r : Reply) → Spells t body r → reply_of t body ≡ Ok r
spelled_again t body r s = rw (← s.of_type, ← s.spelled) (reply_again r s.has_spelling)

-- ---- why nothing is read

other_type : (t : ℤ) → t ≢ pos 101 → t ≢ pos 102 → t ≢ pos 103 → t ≢ pos 104 → (r : Reply) → type_id_of r ≡ t → ⊥
other_type t a b d f (Allocated correlation id) e = a (sym e)
other_type t a b d f (Done correlation) e = b (sym e)
other_type t a b d f (Refused correlation code) e = d (sym e)
other_type t a b d f (Closed correlation freed) e = f (sym e)

reply_fault : (t : ℤ) (body : List ℕ) (bad : Bad) → reply_of t body ≡ Err bad → IsFaultOf (IsReplyType t) body bad
unfolding reply_of
reply_fault t body bad e =
    fault_at type_id_of (Allocated 0 0) t body _ _ bad e (λ n1 e2.
    fault_at type_id_of (Done 0) t body _ _ bad e2 (λ n2 e3.
    fault_at type_id_of (Refused 0 (pos 0)) t body _ _ bad e3 (λ n3 e4.
    fault_at type_id_of (Closed 0 0) t body _ _ bad e4 (λ n4 e5.
    let unknown : UnknownType (correlation_of body) ≡ bad = cc in
    subst (IsFaultOf (IsReplyType t) body) unknown ((λ known. other_type t n1 n2 n3 n4 known.0 known.1), refl)))))

-- ---- the same of what decode_reply returns

pub found : (t : ℤ) (body : List ℕ) (result : Result Reply Bad) → AreBytes body → result ≡ reply_of t body
    → IfOk result (Spells t body)
found t body (Ok r) fit e = reply_takes t body r fit (sym e)
found t body (Err bad) fit e = tt

pub bad_is : (t : ℤ) (body : List ℕ) (result : Result Reply Bad) → result ≡ reply_of t body
    → IfErr result (IsFaultOf (IsReplyType t) body)
bad_is t body (Ok r) e = tt
bad_is t body (Err bad) e = reply_fault t body bad (sym e)

-- ---- a type id and a body spell one reply at most

pub one : (t : ℤ) (body : List ℕ) (r s : Reply) → Spells t body r → Spells t body s → r ≡ s
one t body r s p q = cc (spelled_again t body r p, spelled_again t body s q)
