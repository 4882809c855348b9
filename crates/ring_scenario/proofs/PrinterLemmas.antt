-- What a read does whose printer got its memory: its states are read as what was printed.
use Rattle.std.proofs.Common.{◌≡◌, ℕ, List, [], ◌∷◌, false, sym, ap, subst, inl, inr}
use Rattle.ring_layout.specs.{declared.message.Message.Message, Handles.Handles}
use Rattle.ring_words.specs.declared.read.{action.Action.Action, end.ReadEnd.ReadEnd}
use Rattle.ring_table.specs.declared.view.View.{View}
use Rattle.ring_rings.specs.Reading.{Controls, Reads}
use Rattle.ring_scenario.specs.declared.printer.Printer.{Printer}
use Rattle.ring_scenario.specs.Printing.{Prints, PrintsUnless, printed_by}

-- a printer that had memory at the end had it before
had_memory : (s t : Printer) (ms : List Message) (actions : List Action) → Handles PrintsUnless s ms actions t
    → t.wants_memory ≡ false → s.wants_memory ≡ false
had_memory s t [] [] same had = subst (λ (p : Printer). p.wants_memory ≡ false) (sym same) had
had_memory s t [] (a ∷ more) none had = absurd none
had_memory s t (m ∷ ms) [] none had = absurd none
had_memory s t (m ∷ ms) (a ∷ more) all had = (all.1.2 (had_memory all.0 t ms more all.2 had)).0

pub handled : (s t : Printer) (ms : List Message) (actions : List Action) → Handles PrintsUnless s ms actions t
    → t.wants_memory ≡ false → Handles Prints (printed_by s) ms actions (printed_by t)
handled s t [] [] same had = ap printed_by same
handled s t [] (a ∷ more) none had = absurd none
handled s t (m ∷ ms) [] none had = absurd none
handled s t (m ∷ ms) (a ∷ more) all had = (
  printed_by all.0,
  record {
    returned = all.1.0;
    actions = all.1.1;
    text = (all.1.2 (had_memory all.0 t ms more all.2 had)).1;
  },
  handled all.0 t ms more all.2 had,
)

abbrev pub printed_reads : (limit : ℕ) (v w : View) (s t : Printer) (count : ℕ)
    → Reads PrintsUnless limit v w s t count → t.wants_memory ≡ false
    → Reads Prints limit v w (printed_by s) (printed_by t) count
printed_reads limit v w s t count r had = record {
  messages = r.messages;
  actions = r.actions;
  handled = handled s t _ r.actions r.handled had;
  counted = r.counted;
  taken = r.taken;
  moves = r.moves;
  tight = r.tight;
}

pub printed_controls : (limit : ℕ) (v w : View) (s t : Printer) (end : ReadEnd)
    → Controls PrintsUnless limit v w s t end → t.wants_memory ≡ false
    → Controls Prints limit v w (printed_by s) (printed_by t) end
printed_controls limit v w s t end (inl on) had = inl (record {
  reads = record { reads = printed_reads limit v w s t end.messages on.reads.reads had; heads = on.reads.heads };
  went_on = on.went_on;
  stopped = on.stopped;
})
printed_controls limit v w s t end (inr (inl broke)) had = inr (inl (record {
  reads = record { reads = printed_reads limit v w s t end.messages broke.reads.reads had; heads = broke.reads.heads };
  before = broke.before;
  went_on = broke.went_on;
  broke = broke.broke;
  tight = broke.tight;
  stopped = broke.stopped;
}))
printed_controls limit v w s t end (inr (inr cut)) had =
    let before = cut.aborted.2 had in
    inr (inr (record {
      before = printed_by cut.before;
      reads = record {
        reads = printed_reads limit v w s cut.before end.messages cut.reads.reads before.0;
        heads = cut.reads.heads;
      };
      went_on = cut.went_on;
      message = cut.message;
      aborted = record { returned = cut.aborted.0; actions = cut.aborted.1; text = before.1 };
      next = cut.next;
      before_limit = cut.before_limit;
      before_end = cut.before_end;
      stopped = cut.stopped;
    }))
