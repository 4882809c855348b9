-- A controlled read of one message that is taken and not copied.
use Rattle.std.proofs.Common.{◌≡◌, ◌+◌, inl, inr, List, [], ◌∷◌, ◌++◌, Bool, true, false, sym, ap, ◌∙◌, subst}
use Rattle.ring_layout.specs.declared.message.Message.{Message}
use Rattle.ring_words.specs.declared.read.action.Action.{Action, TheVariants.Abort, TheVariants.Break}
use Rattle.ring_words.specs.{declared.read.end.ReadEnd.ReadEnd, Controlled.GoesOn}
use Rattle.ring_words.specs.declared.read.end.Stop.{Stop, TheVariants.Block, TheVariants.Unpublished}
use Rattle.ring_table.specs.declared.{claim.PlacedMessage.PlacedMessage, view.View.View}
use Rattle.ring_rings.specs.Reading.{Controls, FoundUnsettled, messages_of}
use Rattle.ring_rings.proofs.SentLemmas.{messages_of-append}
use Rattle.ring_ends.specs.{declared.taking.Taking.Taking, End.End}
use Rattle.ring_ends.specs.{Handlers.Takes, Next.HadNone, Next.RanOut, Next.ReceivesAny, Next.TakesNext, Next.TakesOne}
use Rattle.ring_ends.proofs.ShownLemmas.{none_more, shown_none, shown_one, uncounted}
use Rattle.ring_ends.proofs.StopLemmas.{both, none_twice, ran_out}

no_break : Break ≡ Abort → ⊥
no_break clash = cc

never_takes_on : (s t : Taking) (m : Message) (a : Action) → Takes s m t a → GoesOn a → ⊥
never_takes_on s t m a takes on = subst GoesOn takes.action on

pub took_one : (v w : View) (s t : Taking) (end : ReadEnd) → s.took ≡ false
    → v.consumer.head + end.bytes ≡ w.consumer.head → (end.stopped ≡ Unpublished → FoundUnsettled v w)
    → Controls Takes 1 v w s t end → TakesOne (RanOut 1 end.stopped) v t.took w
took_one v w s t end waits bytes blocked (inl on) =
    let none = shown_none Takes never_takes_on s t on.reads.reads.messages on.reads.reads.actions on.reads.reads.handled on.went_on in
    subst (λ (took : Bool). TakesOne (RanOut 1 end.stopped) v took w) (sym waits ∙ ap (λ (u : Taking). u.took) none.1)
    (record {
      taken = none_more v w on.reads.reads.messages on.reads.reads.taken none.0;
      why = ran_out Takes 1 v w s t end on (uncounted end.messages on.reads.reads.messages on.reads.reads.counted none.0) bytes blocked;
    })
took_one v w s t end waits bytes blocked (inr (inl broke)) =
    let one = shown_one Takes never_takes_on s t broke.reads.reads.messages broke.reads.reads.actions broke.before
    broke.reads.reads.handled broke.went_on broke.broke in
    subst (λ (took : Bool). TakesOne (RanOut 1 end.stopped) v took w) (sym one.2.took)
    (record {
      message = one.0;
      taken = broke.reads.reads.taken ∙ ap (λ (ns : List PlacedMessage). v.consumer.taken ++ ns) one.1;
    })
took_one v w s t end waits bytes blocked (inr (inr aborts)) = absurd (no_break (sym aborts.aborted.action))

-- Two reads as one -----------------------------------------------------------------

module _ (one two : Stop) (v u w : View) (ended : one ≡ Block) where
  took_then : (took : Bool) → TakesNext (RanOut 1 one) v false u → TakesNext (RanOut 1 two) u took w
      → TakesNext (HadNone 1) v took w
  took_then true first then = (
    both v u w first.0 then.0,
    record {
      message = then.1.message;
      taken = then.1.taken ∙ ap (λ (ms : List PlacedMessage). ms ++ then.1.message ∷ []) first.1.taken;
    },
  )
  took_then false first then =
      (both v u w first.0 then.0, none_twice 1 one two v u w first.0 then.0 ended first.1 then.1)

  pub taken_twice : (first took : Bool) → first ≡ false → TakesNext (RanOut 1 one) v first u
      → TakesNext (RanOut 1 two) u took w → TakesNext (HadNone 1) v took w
  taken_twice first took is did =
      took_then took (subst (λ (x : Bool). TakesNext (RanOut 1 one) v x u) is did)

-- What was received ----------------------------------------------------------------

pub received_any : (p q : End) (Why : View → View → Type 0) (took : Bool) → TakesOne Why p.view took q.view
    → ReceivesAny p took q
received_any p q Why true k =
    (k.message.message, ap messages_of k.taken ∙ messages_of-append p.view.consumer.taken (k.message ∷ []))
received_any p q Why false k = ap messages_of k.taken
