-- The effects of lines of the command ring and of the conductor, with the text that they print.
use Rattle.std.specs.Prelude.{◌≡◌, ℕ, ℤ, List, codes, true, IfErr, IfOk, Result}
use Rattle.ring_words.specs.declared.fault.ClaimFault.{ClaimFault}
use Rattle.ring_rings.specs.Seats.{capacity_of, view_of}
use Rattle.ring_counters.specs.{Infos.AreInfos, Manager.registry_of}
use Rattle.ring_counters.specs.Registry.{answer, counter_at, id_refusal_of, live_of}
use Rattle.ring_counters.specs.declared.{fault.OutOfMemory.OutOfMemory, info.CounterInfo.CounterInfo}
use Rattle.ring_service.specs.declared.conductor.Work.{Work}
use Rattle.ring_service.specs.Conducting.{Works, ledger_of, manager_in, ring_view}
use Rattle.ring_protocol.specs.declared.command.Request.{Request}
use Rattle.ring_ends.specs.End.{WritesAlone}
use Rattle.ring_scenario.specs.Keeping.{KeepsButConductor, KeepsButProducer}
use Rattle.ring_scenario.specs.RefusalTexts.{claim_refused, id_refused, memory_refused}
use Rattle.ring_scenario.specs.ServiceTexts.{counters_text, work_text}
use Rattle.ring_scenario.specs.Serving.{FitsRoom, RefusesRequest, SendsRequest}
use Rattle.ring_scenario.specs.Texts.{answer_text, done_text, number_text}
use Rattle.ring_scenario.specs.declared.service.CommandService.{CommandService}

-- a message was written into the command ring, or refused
pub record SendsLine (type_id : ℤ) (body : List ℕ) (old new : CommandService) (text : List ℕ) : Type 0 where
  pub sent : Result (Unit {0}) ClaimFault
  pub wrote : WritesAlone true (capacity_of old.ring) type_id body (view_of old.producer) sent (view_of new.producer)
  pub rest : KeepsButProducer old new
  pub prints : text ≡ done_text claim_refused sent

-- a command was sent, or refused
pub record RequestsLine (request : Request (List ℕ)) (old new : CommandService) (text : List ℕ) : Type 0 where
  pub sent : Result ℕ ClaimFault
  pub fits : FitsRoom request
  pub written : IfOk sent (λ correlation.
      SendsRequest (capacity_of old.ring) request (view_of old.producer) correlation (view_of new.producer))
  pub refused : IfErr sent (λ fault.
      RefusesRequest (capacity_of old.ring) request (view_of old.producer) fault (view_of new.producer))
  pub rest : KeepsButProducer old new
  pub prints : text ≡ answer_text (number_text (codes "sent")) claim_refused sent

-- the conductor took at most `limit` commands at this moment
pub record WorksLine (now limit : ℕ) (old new : CommandService) (text : List ℕ) : Type 0 where
  pub done : Work
  pub works : Works now limit (ring_view old.conductor) (ring_view new.conductor) (ledger_of old.conductor)
      (ledger_of new.conductor) done
  pub rest : KeepsButConductor old new
  pub prints : text ≡ work_text done

-- the counters in use were listed, or there was no memory for the list
pub record CountsLine (s : CommandService) (text : List ℕ) : Type 0 where
  pub listed : Result (List CounterInfo) OutOfMemory
  pub infos : IfOk listed (λ infos. AreInfos infos (live_of (registry_of (manager_in s.conductor))))
  pub prints : text ≡ answer_text counters_text memory_refused listed

-- the owner of a counter in use, or the reason why there is none
abbrev pub owner_text : ℕ → CommandService → List ℕ
owner_text id s =
    let registry = registry_of (manager_in s.conductor) in
    answer_text (number_text (codes "owner")) id_refused
    (answer (id_refusal_of registry id) (counter_at registry id).values.owner)
