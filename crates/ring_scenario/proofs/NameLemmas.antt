-- Each call is asked for by its name and words of its kinds, and by nothing else.
use Rattle.std.proofs.Common.{◌≡◌, ◌∙◌, ◌≢◌, ℕ, ◌+◌, ◌*◌, ◌==◌, List, [], ◌∷◌, Option, None, Some, refl, sym, ap, subst, if◌then◌else◌}
use Rattle.ring_scenario.specs.declared.lines.{call.Call.Call, name.Name.Name}
use Rattle.ring_scenario.specs.declared.lines.name.Name.TheVariants.{Write, Claim, Put, Commit, Abort, Read, Control, Positions, Correlation, Beat, Heartbeat, Transmit, Subscribe, Receive, Leave, Storm, Send, Allocate, Own, Free, Set, Close, Work, Listen, Hear, Counters, Owner, Watch, Peek, Unwatch}
use Rattle.ring_scenario.specs.{Asking.AsksFor, Asking.form_of}
use Rattle.ring_scenario.specs.Forms.{AreSpelled, Values, kinds_of, spelled}

-- a word as a number
abbrev number_in : List ℕ → ℕ
number_in [] = 0
number_in (letter ∷ more) = letter + 256 * number_in more

-- the names of calls
abbrev names : List Name
names = Write ∷ Claim ∷ Put ∷ Commit ∷ Abort ∷ Read ∷ Control ∷ Positions ∷ Correlation ∷ Beat ∷ Heartbeat ∷ Transmit
    ∷ Subscribe ∷ Receive ∷ Leave ∷ Storm ∷ Send ∷ Allocate ∷ Own ∷ Free ∷ Set ∷ Close ∷ Work ∷ Listen ∷ Hear
    ∷ Counters ∷ Owner ∷ Watch ∷ Peek ∷ Unwatch ∷ []

-- the first of these names whose word is this number
abbrev name_among : List Name → ℕ → Option Name
name_among [] n = None
name_among (name ∷ more) n = if n == number_in (spelled name) then Some name else name_among more n

-- the name that a word spells
abbrev name_in : List ℕ → Option Name
name_in word = name_among names (number_in word)

name_in-spelled : (name : Name) → name_in (spelled name) ≡ Some name
name_in-spelled Write = refl
name_in-spelled Claim = refl
name_in-spelled Put = refl
name_in-spelled Commit = refl
name_in-spelled Abort = refl
name_in-spelled Read = refl
name_in-spelled Control = refl
name_in-spelled Positions = refl
name_in-spelled Correlation = refl
name_in-spelled Beat = refl
name_in-spelled Heartbeat = refl
name_in-spelled Transmit = refl
name_in-spelled Subscribe = refl
name_in-spelled Receive = refl
name_in-spelled Leave = refl
name_in-spelled Storm = refl
name_in-spelled Send = refl
name_in-spelled Allocate = refl
name_in-spelled Own = refl
name_in-spelled Free = refl
name_in-spelled Set = refl
name_in-spelled Close = refl
name_in-spelled Work = refl
name_in-spelled Listen = refl
name_in-spelled Hear = refl
name_in-spelled Counters = refl
name_in-spelled Owner = refl
name_in-spelled Watch = refl
name_in-spelled Peek = refl
name_in-spelled Unwatch = refl

-- two names are spelled differently
same_name : (name other : Name) → spelled name ≡ spelled other → name ≡ other
same_name name other is =
    let both : Some name ≡ Some other = sym (name_in-spelled name) ∙ (ap name_in is ∙ name_in-spelled other) in cc

-- words that spell no values of the kinds of a name ask for no call after it
pub no_call : (name : Name) (words : List (List ℕ))
    → ((values : Values (kinds_of name)) → AreSpelled (kinds_of name) values words → ⊥) → (call : Call)
    → AsksFor call (spelled name ∷ words) → ⊥
no_call name words none call asks =
    let form = form_of call in
    let first : spelled name ≡ spelled form.0 = cc (asks.1) in
    let rest : words ≡ asks.0 = cc (asks.1) in
    subst (λ n. (values : Values (kinds_of n)) → AreSpelled (kinds_of n) values words → ⊥) (same_name name form.0 first)
    none form.1 (subst (AreSpelled (kinds_of form.0) form.1) (sym rest) asks.2)

-- a word that is no name asks for none
pub no_name : (word : List ℕ) (words : List (List ℕ)) → ((name : Name) → spelled name ≢ word) → (call : Call)
    → AsksFor call (word ∷ words) → ⊥
no_name word words none call asks =
    let first : spelled (form_of call).0 ≡ word = cc (asks.1) in none (form_of call).0 first
