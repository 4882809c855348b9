-- The headers that the code packs are those of the claims.
use Rattle.std.proofs.Common.{◌≡◌, ℕ, ℤ, FitsSigned, sym, ap, ◌∙◌, w32}
use Rattle.std.{specs.Int.cast_signed, specs.Int.cast_unsigned, proofs.lemmas.Int.to_z-of_z}
use Rattle.ring_layout.specs.declared.message.ClaimState.TheVariants.{Committed, Aborted}
use Rattle.ring_layout.specs.Headers.{aborted_header, committed_header, header_of, open_header}
use Rattle.ring_table.specs.{Staged.StagedClaim, ProducerSteps.IsStagedOpen}

pub packs_open : (word n : ℕ) (type_id : ℤ) → FitsSigned w32 type_id
    → word ≡ open_header (cast_signed w32 (cast_unsigned w32 type_id)) n → word ≡ open_header type_id n
packs_open word n type_id fits is = is ∙ ap (λ z. open_header z n) (to_z-of_z w32 type_id fits)

pub packs_recorded : (word n : ℕ) (type_id : ℤ) → FitsSigned w32 type_id
    → word ≡ committed_header (cast_signed w32 (cast_unsigned w32 type_id)) n → word ≡ committed_header type_id n
packs_recorded word n type_id fits is = is ∙ ap (λ z. committed_header z n) (to_z-of_z w32 type_id fits)

pub packs_committed : (word n : ℕ) (type_id : ℤ) (c : StagedClaim) → FitsSigned w32 type_id → IsStagedOpen type_id n c
    → word ≡ committed_header (cast_signed w32 (cast_unsigned w32 type_id)) n
    → word ≡ header_of (record { message = c.message; state = Committed })
packs_committed word n type_id c fits is_open is =
    packs_recorded word n type_id fits is ∙ λ i. committed_header (sym is_open.type_is i) (sym is_open.len_is i)

pub packs_aborted : (word n : ℕ) (type_id : ℤ) (c : StagedClaim) → IsStagedOpen type_id n c
    → word ≡ aborted_header n → word ≡ header_of (record { message = c.message; state = Aborted })
packs_aborted word n type_id c is_open is = is ∙ λ i. aborted_header (sym is_open.len_is i)
