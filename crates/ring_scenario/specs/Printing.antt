-- The text that the runner's handler prints.
use Rattle.std.specs.Prelude.{◌≡◌, List, [], ℕ, ◌++◌, drop, false, slice_index_or, string_bytes}
use Rattle.ring_layout.specs.declared.message.Message.{Message}
use Rattle.ring_words.specs.declared.read.action.Action.{Action, TheVariants.Continue}
use Rattle.ring_scenario.specs.{declared.printer.Printer.Printer, Texts.message_text}

-- the actions that a handler has not returned yet, and the text that it printed
pub record Printed : Type 0 where
  pub actions : List Action
  pub text : List ℕ

-- nothing was printed
abbrev pub unprinted : List Action → Printed
unprinted actions = record { actions = actions; text = [] }

-- The line of a message was printed, and the next action was returned. The action is Continue if none is left.
pub record Prints (old : Printed) (m : Message) (new : Printed) (action : Action) : Type 0 where
  pub returned : action ≡ slice_index_or old.actions 0 Continue
  pub actions : new.actions ≡ drop 1 old.actions
  pub text : new.text ≡ old.text ++ message_text m

abbrev pub printed_by : Printer → Printed
printed_by p = record { actions = p.actions.now; text = string_bytes p.text }

-- the line of a message was printed and the next action was returned by a printer, unless there was no memory for a
-- line
abbrev pub PrintsUnless : Printer → Message → Printer → Action → Type 0
PrintsUnless old m new action = (action ≡ slice_index_or old.actions.now 0 Continue)
    × (new.actions.now ≡ drop 1 old.actions.now)
    × (new.wants_memory ≡ false
    → (old.wants_memory ≡ false) × (string_bytes new.text ≡ string_bytes old.text ++ message_text m))
