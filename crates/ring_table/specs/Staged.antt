-- Claims whose headers may not be stored yet, and the words that they make.
use Rattle.std.specs.Prelude.{◌≡◌, ℕ, ◌+◌, ◌-◌, ◌/◌, ◌^◌, ◌<◌, ℤ, pos, negsuc, List, [], ◌∷◌, ◌++◌, length, drop, if◌then◌else◌, nat_lt, ◌==◌, ⊤}
use Rattle.std.specs.Int.{from_le_bytes, to_le_bytes, w64}
use Rattle.ring_layout.specs.declared.message.{Message.Message, ClaimState.ClaimState, ClaimState.TheVariants.Open}
use Rattle.ring_layout.specs.{declared.message.Claim.Claim, History.IsMessage, History.span, Places.next_place}
use Rattle.ring_layout.specs.Headers.{header, header_of, committed_header, padding_header}
pub use Rattle.ring_table.specs.declared.claim.StagedClaim.{StagedClaim}
pub use Rattle.ring_table.specs.declared.claim.PlacedMessage.{PlacedMessage}
pub use Rattle.ring_table.specs.declared.claim.Stage.{Stage}
pub use Rattle.ring_table.specs.declared.claim.Stage.TheVariants.{Moved, Padded, Stored}

-- the state of a claim, which is open until it is settled
abbrev pub stage_state : Stage → ClaimState
stage_state Moved = Open
stage_state Padded = Open
stage_state (Stored s) = s

-- the claim without its place and stage
abbrev pub claim_of : StagedClaim → Claim
claim_of c = record { message = c.message; state = stage_state c.stage }

abbrev pub unplaced : List StagedClaim → List Claim
unplaced [] = []
unplaced (c ∷ cs) = claim_of c ∷ unplaced cs

-- the bytes of a claim's record
abbrev pub staged_span : StagedClaim → ℕ
staged_span c = span (length c.message.body)

abbrev pub claim_end : StagedClaim → ℕ
claim_end c = c.place + staged_span c

-- the padding's header, 0 before it is stored
abbrev pub masked_padding : Stage → ℕ → ℕ
masked_padding Moved word = 0
masked_padding Padded word = word
masked_padding (Stored s) word = word

-- a word of the claim's record, 0 before its header is stored
abbrev pub masked_record : Stage → ℕ → ℕ
masked_record Moved word = 0
masked_record Padded word = 0
masked_record (Stored s) word = word

-- where the bodies of messages lie: in words of their records, or elsewhere
pub data Bodies : Type 0 where
  in_words : Bodies
  elsewhere : Bodies

-- the type id of padding in the words of a ring whose bodies lie elsewhere. In the formats it is that of aborted
-- records, whose bodies a closed ring shows
abbrev pub padding_mark : ℤ
padding_mark = negsuc 1

-- the header of n bytes of padding, as the words have it
abbrev pub padding_word : Bodies → ℕ → ℕ
padding_word in_words n = padding_header n
padding_word elsewhere n = header (pos n) padding_mark

-- a header of the words as the formats have it
abbrev pub shown_header : Bodies → ℕ → ℕ
shown_header in_words w = w
shown_header elsewhere w = if w / 2 ^ 32 == 2 ^ 32 - 2 then w + 2 ^ 32 else w

-- the word that a record has from the byte `at` of its body on
abbrev pub part_word : Bodies → List ℕ → ℕ → ℕ
part_word in_words body at = from_le_bytes w64 (drop at body)
part_word elsewhere body at = 0

-- the word of a claim k bytes from its place: the header, then those of its body, if they lie there
abbrev pub record_word : Bodies → Claim → ℕ → ℕ
record_word B c k = if k == 0 then header_of c else part_word B c.message.body (k - 8)

-- the word of a claim, or of the padding before it, at the position p
unfoldable pub staged_word : Bodies → StagedClaim → ℕ → ℕ
staged_word B c p =
    if nat_lt p c.place then (if p == c.from then masked_padding c.stage (padding_word B (c.place - c.from)) else 0)
    else masked_record c.stage (record_word B (claim_of c) (p - c.place))

-- the word of a body from the offset `at` on
unfoldable pub body_word : List ℕ → ℕ → ℕ
body_word body at = from_le_bytes w64 (drop at body)

-- a header and a body as bytes
unfoldable pub headed : ℕ → List ℕ → List ℕ
headed h body = to_le_bytes w64 h ++ body

-- the bytes that the slots of a message's record have: the header as if the claim was committed, and the body
abbrev pub slot_bytes : Message → List ℕ
slot_bytes m = headed (committed_header m.type_id (length m.body)) m.body

-- the word at position p of claims that are one after the other, 0 after them
abbrev pub staged_word_at : Bodies → List StagedClaim → ℕ → ℕ
staged_word_at B [] p = 0
staged_word_at B (c ∷ cs) p = if nat_lt p (claim_end c) then staged_word B c p else staged_word_at B cs p

-- a valid claim that comes after the end e
pub record LiesAfter (C e : ℕ) (c : StagedClaim) : Type 0 where
  pub from : c.from ≡ e
  pub place : c.place ≡ next_place C e (staged_span c)
  pub message : IsMessage C c.message

-- the claims are one after the other from e on
abbrev pub ArePlaced : ℕ → ℕ → List StagedClaim → Type 0
ArePlaced C e [] = ⊤
ArePlaced C e (c ∷ cs) = LiesAfter C e c × ArePlaced C (claim_end c) cs

-- the end of claims from e on
abbrev pub staged_end : ℕ → List StagedClaim → ℕ
staged_end e [] = e
staged_end e (c ∷ cs) = staged_end (claim_end c) cs

-- the places of the claims are above p
abbrev pub AreAbove : ℕ → List StagedClaim → Type 0
AreAbove p [] = ⊤
AreAbove p (c ∷ cs) = (p < c.place) × AreAbove p cs

-- the places rise, so that none occurs twice
abbrev pub AreRising : List StagedClaim → Type 0
AreRising [] = ⊤
AreRising (c ∷ cs) = AreAbove c.place cs × AreRising cs

-- the header is stored, as it is of every claim between two calls
abbrev pub IsStored : Stage → Type 0
IsStored Moved = ⊥
IsStored Padded = ⊥
IsStored (Stored s) = ⊤

abbrev pub AreStored : List StagedClaim → Type 0
AreStored [] = ⊤
AreStored (c ∷ cs) = IsStored c.stage × AreStored cs
