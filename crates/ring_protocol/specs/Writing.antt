-- The text that is written at the start of an output.
use Rattle.std.specs.Prelude.{◌≡◌, ℕ, ◌≤◌, ◌↔◌, List, ◌++◌, length, drop, Option, IsSome, IfSome, IfNone}
use Rattle.ring_protocol.specs.declared.reply.Reply.{Reply}
use Rattle.ring_protocol.specs.Command.{Instruction, spelling_of, HasSpelling, HasTextLengths}
use Rattle.ring_protocol.specs.Reply as reply

-- the output in which the text replaces the start
abbrev pub over_start : List ℕ → List ℕ → List ℕ
over_start text old = text ++ drop (length text) old

-- If the text fits, it is at the start of the output. Otherwise nothing was written.
pub record WritesText (text old new : List ℕ) (result : Option ℕ) : Type 0 where
  pub fits : IsSome result ↔ (length text ≤ length old)
  pub len : IfSome result (λ n. n ≡ length text)
  pub some : IfSome result (λ n. new ≡ over_start text old)
  pub none : IfNone result (new ≡ old)

-- If the encoding of a command fits and lengths can hold those of the key and the label, it is at the start of the
-- output. Otherwise nothing was written.
pub record Encodes (c : Instruction) (old new : List ℕ) (result : Option ℕ) : Type 0 where
  pub fits : IsSome result ↔ (HasTextLengths c.request × (length (spelling_of c) ≤ length old))
  pub spelled : IfSome result (λ n. HasSpelling c)
  pub len : IfSome result (λ n. n ≡ length (spelling_of c))
  pub some : IfSome result (λ n. new ≡ over_start (spelling_of c) old)
  pub none : IfNone result (new ≡ old)

-- The encoding of a reply is at the start of an output.
pub record EncodesReply (r : Reply) (old new : List ℕ) (result : ℕ) : Type 0 where
  pub has_spelling : reply.HasSpelling r
  pub len : result ≡ length (reply.spelling_of r)
  pub written : new ≡ over_start (reply.spelling_of r) old
