-- Why a batch is refused, message by message.
use Rattle.std.proofs.Common.{rules, ◌≡◌, ℕ, ◌+◌, ◌/◌, ◌≤◌, ◌<◌, pos, List, [], ◌∷◌, FitsSigned, drop, get_or, length, replicate, ap, ◌∙◌, refl, arith, ℤ, Option, Some, None, Bool, true, false, if◌then◌else◌, int_lt, nat_lt, w32, ltb-false}
use Rattle.std.proofs.lemmas.List.{drop_more, length-replicate, Elements.All-replicate}
use Rattle.ring_layout.specs.{History.IsMessage, Refusals.message_refusal_or}
use Rattle.ring_words.specs.declared.fault.ClaimFault.{ClaimFault, TheVariants.BadType, TheVariants.TooLong}
use Rattle.ring_table.specs.{RunBodies.messages_of, declared.runs.Outgoing.Outgoing, Changes.blank}
use Rattle.ring_table.proofs.RunFill.{no_message}
use Rattle.ring_rings.specs.{Batches.batch_refusal_of, Claiming.request_refusal_of}

pass_by : {F : Type 0} (b c : Bool) (x y : F) (other : Option F)
    → (if b then Some x else (if c then Some y else None)) ≡ None
    → (if b then Some x else (if c then Some y else other)) ≡ other
pass_by true c x y other e = absurd cc
pass_by false true x y other e = absurd cc
pass_by false false x y other e = refl

neither : {F : Type 0} (b c : Bool) (x y : F) → (if b then Some x else (if c then Some y else None)) ≡ None
    → (b ≡ false) × (c ≡ false)
neither true c x y e = absurd cc
neither false true x y e = absurd cc
neither false false x y e = (refl, refl)

-- a ring may have a message that it does not refuse
pub sendable : (C : ℕ) (type_id : ℤ) (len : ℕ) → FitsSigned w32 type_id → request_refusal_of C type_id len ≡ None
    → IsMessage C (blank type_id len)
sendable C type_id len fits none =
    let no : (int_lt type_id (pos 1) ≡ false) × (nat_lt (C / 8) len ≡ false) =
    neither (int_lt type_id (pos 1)) (nat_lt (C / 8) len) (BadType type_id) (TooLong len (C / 8)) none in
    let positive = no.0 in
    let short : len ≤ C / 8 = ltb-false (C / 8) len no.1 in
    let long : length (blank type_id len).body ≡ len = length-replicate len 0 in
    record {
      type_id = search rules;
      type_fits = fits;
      short = omega arith;
      bytes = All-replicate (λ (b : ℕ). b < 256) len 0 (omega arith);
    }

-- a message without a reason leaves the reason of those after it
pub passes : (C : ℕ) (type_id : ℤ) (len : ℕ) (other : Option ClaimFault) → request_refusal_of C type_id len ≡ None
    → message_refusal_or BadType TooLong C type_id len other ≡ other
passes C type_id len other none =
    pass_by (int_lt type_id (pos 1)) (nat_lt (C / 8) len) (BadType type_id) (TooLong len (C / 8)) other none

module _ (C : ℕ) (os : List Outgoing) (i : ℕ) (lt : i < length os) where
  abbrev it : Outgoing
  it = get_or os i no_message

  abbrev later : Option ClaimFault
  later = batch_refusal_of C (messages_of (drop (i + 1) os))

  pub batch_on : request_refusal_of C it.type_id (length it.body.now) ≡ None
      → batch_refusal_of C (messages_of (drop i os)) ≡ batch_refusal_of C (messages_of (drop (i + 1) os))
  batch_on none = ap (λ l. batch_refusal_of C (messages_of l)) (drop_more os i no_message lt)
      ∙ passes C it.type_id (length it.body.now) later none
