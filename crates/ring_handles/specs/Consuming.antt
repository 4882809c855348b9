-- What a consumer's calls do: r is the consumer before, s after, and the code is what is returned.
use Rattle.std.specs.Prelude.{◌≡◌, ◌≢◌, ◌⊎◌, ℕ, ℤ, List, [], ◌∷◌, ◌++◌, length, take, Bool, true, false}
use Rattle.ring_layout.specs.declared.message.Message.{Message}
use Rattle.ring_table.specs.Views.{with_beat}
use Rattle.ring_rings.specs.Ring.{message}
use Rattle.ring_ends.specs.{declared.copying.NextMessage.NextMessage, Next.CopiesNext, Next.HadNone, Next.TakesNext}
use Rattle.ring_ends.specs.declared.copying.NextMessage.TheVariants.{Copied, Nothing, TooLong}
use Rattle.ring_ends.specs.End.{received}
use Rattle.ring_handles.specs.Side.{ByEnd, Reading}
use Rattle.ring_handles.specs.declared.code.TheConstants.{DONE, NO_MESSAGE, SHORT_BUFFER}

-- What was received ----------------------------------------------------------------

-- after code 0 messages of which P holds were received, and after another code none was
abbrev pub ReceivesThose : (List Message → Type 0) → Reading → Reading → ℤ → Type 0
ReceivesThose P r s code = ((code ≡ DONE) × ((ms : List Message) × P ms × (received s.end ≡ received r.end ++ ms)))
    ⊎ ((code ≢ DONE) × (received s.end ≡ received r.end))

-- nothing was received
abbrev pub ReceivesNone : Reading → Reading → Type 0
ReceivesNone r s = received s.end ≡ received r.end

-- One message ---------------------------------------------------------------------

-- what a read puts out: a message's type id and length, and the buffer
pub record Out : Type 0 where
  pub type_id : ℤ
  pub len : ℕ
  pub buffer : List ℕ

abbrev pub out : ℤ → ℕ → List ℕ → Out
out type_id len buffer = record { type_id = type_id; len = len; buffer = buffer }

-- what is put out of what was found, with this buffer
abbrev pub next_out : NextMessage → Out → List ℕ → Out
next_out (Copied type_id len) before buffer = out type_id len buffer
next_out (TooLong type_id len) before buffer = out type_id len buffer
next_out Nothing before buffer = out before.type_id before.len buffer

-- its code: DONE if a message was copied, NO_MESSAGE if there was none, SHORT_BUFFER if the buffer is too short
abbrev pub next_code : NextMessage → ℤ
next_code (Copied type_id len) = DONE
next_code (TooLong type_id len) = SHORT_BUFFER
next_code Nothing = NO_MESSAGE

-- a message was copied, and taken, or stays
abbrev pub ReadsOrPeeks : Bool → Out → Out → Reading → Reading → ℤ → Type 0
ReadsOrPeeks takes before after r s code =
    ByEnd (λ next. (code ≡ next_code next) × (after ≡ next_out next before after.buffer))
    (CopiesNext takes (HadNone 1) before.buffer after.buffer) r s

-- a message was read, or seen
abbrev pub ReadOne : Out → Out → Reading → Reading → ℤ → Type 0
ReadOne = ReadsOrPeeks true

abbrev pub PeekOne : Out → Out → Reading → Reading → ℤ → Type 0
PeekOne = ReadsOrPeeks false

-- after code 0 the message that is put out was received
abbrev pub ReceivesOut : Out → Reading → Reading → ℤ → Type 0
ReceivesOut after = ReceivesThose (λ ms. ms ≡ message after.type_id (take after.len after.buffer) ∷ [])

-- Without a copy --------------------------------------------------------------------

-- the code of a take: DONE if a message was taken, NO_MESSAGE if there was none
abbrev pub taken_code : Bool → ℤ
taken_code true = DONE
taken_code false = NO_MESSAGE

abbrev pub TakeOne : Reading → Reading → ℤ → Type 0
TakeOne r s code = ByEnd (λ took. code ≡ taken_code took) (TakesNext (HadNone 1)) r s

-- after code 0 one message was received
abbrev pub ReceivesOne : Reading → Reading → ℤ → Type 0
ReceivesOne = ReceivesThose (λ ms. length ms ≡ 1)

-- The heartbeat --------------------------------------------------------------------

-- the heartbeat was stored
abbrev pub Beat : ℕ → Reading → Reading → ℤ → Type 0
Beat value r s code = ByEnd {R = Unit {0}} (λ _. code ≡ DONE) (λ v _ w. w ≡ with_beat value v) r s
