-- Header words.
use Rattle.std.specs.Prelude.{ℕ, ◌+◌, ◌*◌, ◌^◌, ℤ, pos, negsuc, neg_ℤ, length}
use Rattle.std.specs.Int.{cast_unsigned, w32}
use Rattle.ring_layout.specs.History.{Claim, ClaimState, Open, Committed, Aborted}

-- the length in the low half and the type id in the high half, both as patterns of 32 bits
abbrev pub header : ℤ → ℤ → ℕ
header len type_id = cast_unsigned w32 type_id * 2 ^ 32 + cast_unsigned w32 len

-- the type id of padding and of aborted records
abbrev pub padding_type : ℤ
padding_type = negsuc 0

-- the header of n bytes of padding
abbrev pub padding_header : ℕ → ℕ
padding_header n = header (pos n) padding_type

-- the header of an open claim with n bytes of body, whose length is negated
abbrev pub open_header : ℤ → ℕ → ℕ
open_header type_id n = header (neg_ℤ (pos (8 + n))) type_id

-- the header of a committed claim with n bytes of body
abbrev pub committed_header : ℤ → ℕ → ℕ
committed_header type_id n = header (pos (8 + n)) type_id

-- the header of an aborted claim with n bytes of body, which has the type id of padding
abbrev pub aborted_header : ℕ → ℕ
aborted_header n = padding_header (8 + n)

-- the header of a claim
abbrev pub header_of : Claim → ℕ
header_of c = by_state c.state
  where
    by_state : ClaimState → ℕ
    by_state Open = open_header c.message.type_id (length c.message.body)
    by_state Committed = committed_header c.message.type_id (length c.message.body)
    by_state Aborted = aborted_header (length c.message.body)
