-- What a producer learns by its steps: v is its view before, w after, n the number found.
use Rattle.std.specs.Prelude.{◌≡◌, ◌≢◌, ℕ, ◌+◌, ◌%◌, ◌≤◌, ◌<◌, ℤ, FitsSigned, ◌^◌, List, [], ◌∷◌, ◌++◌, All, length, slice_index}
use Rattle.std.specs.Int.{w32, w64, to_le_bytes}
use mathlib.Core.Option.{some}
use lib.ListN.{get_elem?}
use Rattle.atomic_table.specs.Table.{Me}
use Rattle.ring_layout.specs.declared.message.ClaimState.{ClaimState, TheVariants.Open}
use Rattle.ring_layout.specs.{History.IsMessage, History.span, Headers.open_header, Refusals.all_shares}
use Rattle.ring_layout.specs.{Places.index, Places.end_after, Places.max_position, Layout.tail_index, Layout.head_index}
use Rattle.ring_table.specs.Staged.{StagedClaim, Stage, Moved, Padded, Stored, claim_end, staged_span, body_word, AreRising}
use Rattle.ring_table.specs.Changes.{blank, moved_claim, staged, with_header, with_body_word, changed}
use Rattle.ring_table.specs.Views.{View, Wanted, logged, with_producer, with_tail, with_head, with_claims, with_claim}

-- a seat's view with its slots, which a ring does not use
abbrev pub Mine : Type 0
Mine = Me ℕ View

pub record IsPosition (n : ℕ) : Type 0 where
  pub aligned : n % 8 ≡ 0
  pub limit : n ≤ max_position

-- ---- tail and head

-- all these claims end at or below p
abbrev pub EndBelow : ℕ → List StagedClaim → Type 0
EndBelow p cs = (k : ℕ) (c : StagedClaim) → get_elem? cs k ≡ some c → claim_end c ≤ p

pub record LoadsTail (C : ℕ) (v : View) (n : ℕ) (w : View) : Type 0 where
  pub view : w ≡ logged (tail_index C) n (with_producer (with_tail n v.producer) v)
  pub later : v.producer.seen_tail ≤ n
  pub above_head : v.producer.seen_head ≤ n
  pub position : IsPosition n
  pub sole : v.producer.shares ≡ all_shares → n ≡ v.producer.seen_tail
  pub rising : AreRising v.producer.claims
  pub behind : EndBelow n v.producer.claims
  pub shares : v.producer.shares ≤ all_shares

pub record LoadsHead (C : ℕ) (v : View) (n : ℕ) (w : View) : Type 0 where
  pub view : w ≡ logged (head_index C) n (with_producer (with_head n v.producer) v)
  pub later : v.producer.seen_head ≤ n
  pub near : v.producer.seen_tail ≤ n + C
  pub position : IsPosition n
  pub sole : v.producer.shares ≡ all_shares → n ≤ v.producer.seen_tail

-- what a claim of n bytes asks of the type id, the new tail and the head that was seen
pub record IsClaimable (C old new : ℕ) (type_id : ℤ) (n seen_head : ℕ) : Type 0 where
  pub message : IsMessage C (blank type_id n)
  pub new_tail : new ≡ end_after C old (span n)
  pub limit : new ≤ max_position
  pub room : new ≤ seen_head + C

-- the exchange found the tail `old`, and the claim is made after all that the producer has, or it found a later tail
pub record MovesTail (C old new : ℕ) (wanted : Wanted) (v : View) (n : ℕ) (w : View) : Type 0 where
  pub hit : n ≡ old → w ≡ with_claim (moved_claim C old wanted.type_id wanted.len) new v
  pub behind : n ≡ old → EndBelow old v.producer.claims
  pub miss : n ≢ old → w ≡ logged (tail_index C) n (with_producer (with_tail n v.producer) v)
  pub later : v.producer.seen_tail ≤ n
  pub position : IsPosition n
  pub sole : v.producer.shares ≡ all_shares → n ≡ v.producer.seen_tail

-- the tail of a sole producer is moved, and a claim of some type id and length is made, with the right span
pub record MovesOwnTail (C new : ℕ) (v w : View) : Type 0 where
  pub type_id : ℤ
  pub len : ℕ
  pub message : IsMessage C (blank type_id len)
  pub new_tail : new ≡ end_after C v.producer.seen_tail (span len)
  pub view : w ≡ with_claim (moved_claim C v.producer.seen_tail type_id len) new v
  pub behind : EndBelow v.producer.seen_tail v.producer.claims

-- ---- claims

abbrev pub HasClaim : View → ℕ → StagedClaim → Type 0
HasClaim v k c = get_elem? v.producer.claims k ≡ some c

-- the view's claim at the place is changed
abbrev pub with_changed : ℕ → (StagedClaim → StagedClaim) → View → View
with_changed place f v = with_claims (changed place f v.producer.claims) v

-- a claim of the view at this place, of which P holds
pub record HasClaimAt (v : View) (place : ℕ) (P : StagedClaim → Type 0) : Type 0 where
  pub nth : ℕ
  pub claim : StagedClaim
  pub there : HasClaim v nth claim
  pub at_place : claim.place ≡ place
  pub holds : P claim

-- the newest claim of the view is at this place, and P holds of it
pub record HasNewestAt (v : View) (place : ℕ) (P : StagedClaim → Type 0) : Type 0 where
  pub others : List StagedClaim
  pub claim : StagedClaim
  pub claims_are : v.producer.claims ≡ others ++ claim ∷ []
  pub at_place : claim.place ≡ place
  pub holds : P claim

-- the view's own claim whose word `at` is this one, at the stage t, becomes f of itself
abbrev pub Changes : Stage → (StagedClaim → ℕ) → (StagedClaim → StagedClaim) → ℕ → View → View → Type 0
Changes t at f word v w = (k : ℕ) (c : StagedClaim) → HasClaim v k c → c.stage ≡ t → index v.capacity (at c) ≡ word
    → w ≡ with_claims (changed c.place f v.producer.claims) v

abbrev pub StoresPadding : ℕ → View → View → Type 0
StoresPadding word v w = Changes Moved (λ c. c.from) (staged Padded) word v w

-- the header that is stored fixes type id and length
abbrev pub StoresClaimed : ℕ → ℕ → View → View → Type 0
StoresClaimed word value v w = (type_id : ℤ) (n : ℕ) → FitsSigned w32 type_id → 8 + n < 2 ^ 31
    → value ≡ open_header type_id n → Changes Padded (λ c. c.place) (with_header type_id n) word v w

abbrev pub StoresSettled : ClaimState → ℕ → View → View → Type 0
StoresSettled s word v w = Changes (Stored Open) (λ c. c.place) (staged (Stored s)) word v w

abbrev pub StoresBody : ℕ → ℕ → View → View → Type 0
StoresBody word value v w = (k : ℕ) (c : StagedClaim) (at : ℕ) → HasClaim v k c → c.stage ≡ Stored Open → at % 8 ≡ 0
    → at < length c.message.body → index v.capacity (c.place + 8 + at) ≡ word
    → w ≡ with_claims (changed c.place (with_body_word at value) v.producer.claims) v

-- the number loaded is the word of an own open claim's body, which has bytes
abbrev pub LoadsOwn : ℕ → View → ℕ → Type 0
LoadsOwn word v n = (k : ℕ) (c : StagedClaim) (at : ℕ) → HasClaim v k c → c.stage ≡ Stored Open → at % 8 ≡ 0
    → at < length c.message.body → index v.capacity (c.place + 8 + at) ≡ word
    → (n ≡ body_word c.message.body at) × All (λ b. b < 256) c.message.body

-- ---- what a step asks of the claim

-- the padding from `from` on has no header yet
pub record NeedsPadding (from : ℕ) (c : StagedClaim) : Type 0 where
  pub stage : c.stage ≡ Moved
  pub from_is : c.from ≡ from
  pub some_padding : from < c.place

-- the header of n bytes must be stored, and a provisional length has the right span
pub record NeedsHeader (n : ℕ) (c : StagedClaim) : Type 0 where
  pub stage : c.stage ≡ Padded
  pub same_span : span n ≡ staged_span c

-- the claim is open, with this type id and length
pub record IsStagedOpen (type_id : ℤ) (n : ℕ) (c : StagedClaim) : Type 0 where
  pub stage : c.stage ≡ Stored Open
  pub type_is : c.message.type_id ≡ type_id
  pub len_is : length c.message.body ≡ n

-- the value may be the body's word at the offset `at`: its bytes after the body are 0
pub record IsWordOfBody (at value : ℕ) (c : StagedClaim) : Type 0 where
  pub stage : c.stage ≡ Stored Open
  pub aligned : at % 8 ≡ 0
  pub inside : at < length c.message.body
  pub zeros : (i : ℕ) → i < 8 → length c.message.body ≤ at + i → slice_index (to_le_bytes w64 value) i ≡ 0
