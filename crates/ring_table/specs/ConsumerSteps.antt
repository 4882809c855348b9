-- What the consumer learns by its steps: v is its view before, w after, n the number found.
use Rattle.std.specs.Prelude.{◌≡◌, ◌≢◌, ℕ, ◌+◌, ◌%◌, ◌^◌, ◌≤◌, ◌<◌, ℤ, pos, ◌≤ℤ◌, FitsSigned, List, [], ◌∷◌, ◌++◌, length}
use Rattle.std.specs.Int.{w32}
use mathlib.Core.Option.{some}
use lib.ListN.{get_elem?}
use Rattle.ring_layout.specs.History.{IsMessage}
use Rattle.ring_layout.specs.{Places.index, Places.max_position, Places.rounded, Headers.header, Headers.padding_type}
use Rattle.ring_table.specs.Staged.{PlacedMessage, body_word}
use Rattle.ring_table.specs.Views.{View, logged, with_consumer, scanned, cleared_to, stands_at}

-- the read has come to `scan` and has got these messages
abbrev pub with_scan : ℕ → ℕ → ℕ → List PlacedMessage → View → View
with_scan word n scan got v = with_consumer (scanned scan got v.consumer) (logged word n v)

-- n bytes from the position p on end below the last position, and do not cross a multiple of the capacity
pub record IsInside (C p n : ℕ) : Type 0 where
  pub limit : p + n ≤ max_position
  pub within : p % C + n ≤ C

-- the record at `scan` is padding, or an aborted one
pub record PassesPadding (C scan : ℕ) (got : List PlacedMessage) (v : View) (n len : ℕ) (w : View) : Type 0 where
  pub view : w ≡ with_scan (index C scan) n (scan + rounded len) got v
  pub inside : IsInside C scan (rounded len)

-- the record at `scan` is a message that is committed
pub record FindsMessage (C scan : ℕ) (got : List PlacedMessage) (v : View) (n len : ℕ) (type_id : ℤ)
    (w : View) : Type 0 where
  pub body : List ℕ
  pub len_is : 8 + length body ≡ len
  pub message : IsMessage C (record { type_id = type_id; body = body })
  pub view : w ≡ with_scan (index C scan) n (scan + rounded len)
      (got ++ (record { place = scan; message = record { type_id = type_id; body = body } }) ∷ []) v
  pub inside : IsInside C scan (rounded len)

-- the producer's part of the view is as it was, and the head and the run
pub record StaysAt (v w : View) : Type 0 where
  pub producer : w.producer ≡ v.producer
  pub out : w.out ≡ v.out
  pub consumes : w.consumes ≡ v.consumes
  pub head : w.consumer.head ≡ v.consumer.head
  pub run : w.consumer.run ≡ v.consumer.run

-- what a header at the position `scan` shows a read that has come there and got these messages
pub record LoadsHeader (C scan : ℕ) (got : List PlacedMessage) (v : View) (n : ℕ) (w : View) : Type 0 where
  pub capacity : w.capacity ≡ v.capacity
  pub stays : StaysAt v w
  pub padding : (len : ℕ) → 0 < len → len < 2 ^ 31 → n ≡ header (pos len) padding_type
      → PassesPadding C scan got v n len w
  pub message : (len : ℕ) (type_id : ℤ) → 0 < len → len < 2 ^ 31 → FitsSigned w32 type_id → type_id ≢ padding_type
      → n ≡ header (pos len) type_id → FindsMessage C scan got v n len type_id w
  pub unpublished : (len type_id : ℤ) → FitsSigned w32 len → FitsSigned w32 type_id → len ≤ℤ pos 0
      → n ≡ header len type_id → w ≡ with_scan (index C scan) n scan got v

-- the number loaded is the word of the body of a message that the read has got
abbrev pub LoadsBody : ℕ → View → ℕ → Type 0
LoadsBody word v n = (k : ℕ) (m : PlacedMessage) (at : ℕ) → get_elem? v.consumer.got k ≡ some m
    → v.consumer.cleared ≤ m.place → at % 8 ≡ 0 → at < length m.message.body
    → index v.capacity (m.place + 8 + at) ≡ word → n ≡ body_word m.message.body at

abbrev pub ClearsWord : View → View → Type 0
ClearsWord v w = w ≡ with_consumer (cleared_to (v.consumer.cleared + 8) v.consumer) v

-- the next word to clear was found to be n: if that is 0 it is passed, and needs no store. The log does not have it
pub record LoadsPassed (v : View) (n : ℕ) (w : View) : Type 0 where
  pub zero : n ≡ 0 → ClearsWord v w
  pub other : n ≢ 0 → w ≡ v

abbrev pub StoresHead : View → View → Type 0
StoresHead v w = w ≡ with_consumer (stands_at v.consumer.scan v.consumer.got v.consumer) v

-- the head goes to the last message that the read has got, which stays in the ring
abbrev pub StoresHeadBefore : View → View → Type 0
StoresHeadBefore v w = (got : List PlacedMessage) (m : PlacedMessage) → v.consumer.got ≡ got ++ m ∷ []
    → w ≡ with_consumer (stands_at m.place got v.consumer) v

-- the last message that the read has got is at the position `head`
pub record StandsBefore (head : ℕ) (v : View) : Type 0 where
  pub front : List PlacedMessage
  pub last : PlacedMessage
  pub got : v.consumer.got ≡ front ++ last ∷ []
  pub place : last.place ≡ head
