-- The text that lines of the ring and of the broadcast buffer print.
use Rattle.std.specs.Prelude.{ℕ, ◌==◌, List, ◌++◌, codes, decimal, length, if◌then◌else◌, Result, Ok, Err}
use Rattle.std.specs.Fmt.{signed_decimal}
use Rattle.hex.specs.Hex.{encode_lower}
use Rattle.ring_layout.specs.declared.message.Message.{Message}
use Rattle.ring_words.specs.declared.{positions.Positions.Positions, read.end.ReadEnd.ReadEnd, read.end.Stop.Stop}
use Rattle.ring_words.specs.declared.read.end.Stop.TheVariants as read
use Rattle.ring_scenario.specs.declared.ring.Claimed.{Claimed}
use Rattle.ring_ends.specs.declared.received.Received.{Received}
use Rattle.ring_ends.specs.declared.received.Received.TheVariants.{Copy, Nothing, Lapped}

abbrev pub ok_text : List ℕ
ok_text = codes "ok\n"

-- the text of the result of a call, which is that of its value or of its fault
abbrev pub answer_text : {T F : Type 0} → (T → List ℕ) → (F → List ℕ) → Result T F → List ℕ
answer_text shown refused (Ok x) = shown x
answer_text shown refused (Err fault) = refused fault

-- the text of the result of a call that returns no value
abbrev pub done_text : {F : Type 0} → (F → List ℕ) → Result (Unit {0}) F → List ℕ
done_text refused done = answer_text (λ _. ok_text) refused done

-- a line of a word and a number
abbrev pub number_text : List ℕ → ℕ → List ℕ
number_text word number = word ++ (codes " " ++ (decimal number ++ codes "\n"))

-- bytes as hexadecimal digits, or `-` for no bytes
abbrev pub hex_text : List ℕ → List ℕ
hex_text bytes = if length bytes == 0 then codes "-" else encode_lower bytes

abbrev pub claimed_text : Claimed → List ℕ
claimed_text c = codes "claim " ++ (decimal c.number ++ (codes " index " ++ (decimal c.index ++ codes "\n")))

-- the text of the reason why a read stopped
abbrev pub stop_text : Stop → List ℕ
stop_text read.Limit = codes "limit"
stop_text read.Block = codes "block"
stop_text read.Unpublished = codes "unpublished"
stop_text read.Action = codes "action"

-- the text of a message that a read shows
abbrev pub message_text : Message → List ℕ
message_text m = codes "message " ++ (signed_decimal m.type_id ++ (codes " " ++ (hex_text m.body ++ codes "\n")))

-- the last line of a read
abbrev pub read_text : ReadEnd → List ℕ
read_text end = codes "read " ++ (decimal end.messages ++ (codes " bytes " ++ (decimal end.bytes
    ++ (codes " stopped " ++ (stop_text end.stopped ++ codes "\n")))))

abbrev pub positions_text : Positions → List ℕ
positions_text p = codes "head " ++ (decimal p.head ++ (codes " tail " ++ (decimal p.tail ++ codes "\n")))

-- the text of what a receiver received
abbrev pub received_text : Received → List ℕ
received_text (Copy place type_id body) = codes "copy " ++ (signed_decimal type_id ++ (codes " "
    ++ (hex_text body.items ++ (codes " place " ++ (decimal place ++ codes "\n")))))
received_text Nothing = codes "none\n"
received_text (Lapped lapped) = number_text (codes "lapped") lapped.count
