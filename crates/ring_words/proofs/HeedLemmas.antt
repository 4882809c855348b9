-- A read that heeds the handler's actions, and one that takes each as Continue.
use Rattle.std.proofs.Common.{◌≡◌, ◌⊎◌, ℕ, List, [], ◌∷◌, ◌++◌, true, false, sym, ◌∙◌, subst, inl, inr, All}
use Rattle.ring_layout.specs.{declared.message.Message.Message, Handles.Handles}
use Rattle.ring_words.specs.declared.read.{action.Action.Action, end.ReadEnd.ReadEnd, end.Stop.Stop}
use Rattle.ring_words.specs.declared.read.action.Action.TheVariants.{Abort, Break, Continue}
use Rattle.ring_words.specs.Controlled.{BrokenOff, CutShort, GoesOn, LetOn, heeded}

module _ {S : Type 0} (step : S → Message → S → Action → Type 0) where
  pub handles_heard : (s : S) (ms : List Message) (as' : List Action) (t : S) → Handles (heeded true step) s ms as' t
      → Handles step s ms as' t
  handles_heard s [] [] t h = h
  handles_heard s [] (a ∷ as') t h = absurd h
  handles_heard s (m ∷ ms) [] t h = absurd h
  handles_heard s (m ∷ ms) (a ∷ as') t h =
      (h.0, subst (λ (b : Action). step s m h.0 b) (sym h.1.2) h.1.1, handles_heard h.0 ms as' t h.2)

  pub handles_unheard : (s : S) (ms : List Message) (as' : List Action) (t : S) → Handles (heeded false step) s ms as' t
      → (bs : List Action) × Handles step s ms bs t
  handles_unheard s [] [] t h = ([], h)
  handles_unheard s [] (a ∷ as') t h = absurd h
  handles_unheard s (m ∷ ms) [] t h = absurd h
  handles_unheard s (m ∷ ms) (a ∷ as') t h =
      let rest = handles_unheard h.0 ms as' t h.2 in (h.1.0 ∷ rest.0, (h.0, h.1.1, rest.1))

  pub no_break : (s : S) (ms : List Message) (before : List Action) (t : S)
      → Handles (heeded false step) s ms (before ++ Break ∷ []) t → ⊥
  no_break s [] [] t h = h
  no_break s [] (a ∷ before) t h = h
  no_break s (m ∷ ms) [] t h = let e : Break ≡ Continue = h.1.2 in cc
  no_break s (m ∷ ms) (a ∷ before) t h = no_break h.0 ms before t h.2

-- how a read ended, given what it takes, by the actions it goes by (`Heard`) and by the handler's (`Takes`)
module _ {S : Type 0} (step : S → Message → S → Action → Type 0) (limit : ℕ) {Heard Takes : S → ℕ → Type 0}
    {actions : (t : S) (n : ℕ) → Heard t n → List Action} {answers : (t : S) (n : ℕ) → Takes t n → List Action}
    {HeardTight : (t : S) (n : ℕ) → Heard t n → Type 0} {Tight : (t : S) (n : ℕ) → Takes t n → Type 0}
    {Next : Message → Type 0} {Inside : Type 0} {stop : Stop} {t : S} {end : ReadEnd} where
  pub ends_heard : (f : (u : S) (n : ℕ) → Heard u n → Takes u n)
      → ((u : S) (n : ℕ) (r : Heard u n) → answers u n (f u n r) ≡ actions u n r)
      → ((u : S) (n : ℕ) (r : Heard u n) → HeardTight u n r → Tight u n (f u n r))
      → LetOn Heard actions stop t end ⊎ (BrokenOff Heard actions HeardTight t end
      ⊎ CutShort (heeded true step) limit Heard actions Next Inside t end)
      → LetOn Takes answers stop t end ⊎ (BrokenOff Takes answers Tight t end
      ⊎ CutShort step limit Takes answers Next Inside t end)
  ends_heard f same tight h =
      let Goal : Type 0 = LetOn Takes answers stop t end ⊎ (BrokenOff Takes answers Tight t end
      ⊎ CutShort step limit Takes answers Next Inside t end) in
      elim h as (λ _. Goal) [
        | inl on ↦ inl (record {
          reads = f t end.messages on.reads;
          went_on = subst (λ (l : List Action). All GoesOn l) (sym (same t end.messages on.reads)) on.went_on;
          stopped = on.stopped;
        })
        | inr stopped ↦ elim stopped as (λ _. Goal) [
          | inl b ↦ inr (inl (record {
            reads = f t end.messages b.reads;
            before = b.before;
            went_on = b.went_on;
            broke = same t end.messages b.reads ∙ b.broke;
            tight = tight t end.messages b.reads b.tight;
            stopped = b.stopped;
          }))
          | inr a ↦ inr (inr (record {
            before = a.before;
            reads = f a.before end.messages a.reads;
            went_on = subst (λ (l : List Action). All GoesOn l) (sym (same a.before end.messages a.reads)) a.went_on;
            message = a.message;
            aborted = subst (λ (b : Action). step a.before a.message t b) (sym a.aborted.2) a.aborted.1;
            next = a.next;
            before_limit = a.before_limit;
            before_end = a.before_end;
            stopped = a.stopped;
          }))
        ]
      ]

-- a read that takes each action as Continue is ended by none
pub ends_unheard : {S : Type 0} (step : S → Message → S → Action → Type 0) (limit : ℕ) {Heard : S → ℕ → Type 0}
    {actions : (t : S) (n : ℕ) → Heard t n → List Action} {HeardTight : (t : S) (n : ℕ) → Heard t n → Type 0}
    {Next : Message → Type 0} {Inside : Type 0} {stop : Stop} {t : S} {end : ReadEnd}
    → ((n : ℕ) (r : Heard t n) (before : List Action) → actions t n r ≡ before ++ Break ∷ [] → ⊥)
    → LetOn Heard actions stop t end ⊎ (BrokenOff Heard actions HeardTight t end
    ⊎ CutShort (heeded false step) limit Heard actions Next Inside t end)
    → Heard t end.messages × (end.stopped ≡ stop)
ends_unheard step limit {Heard} {actions} {HeardTight} {Next} {Inside} {stop} {t} {end} none h =
    let Goal : Type 0 = Heard t end.messages × (end.stopped ≡ stop) in
    elim h as (λ _. Goal) [
      | inl on ↦ (on.reads, on.stopped)
      | inr stopped ↦ elim stopped as (λ _. Goal) [
        | inl b ↦ absurd (none end.messages b.reads b.before b.broke)
        | inr a ↦ let e : Abort ≡ Continue = a.aborted.2 in absurd (let bad : ⊥ = cc in bad)
      ]
    ]
