-- The text that lines of the conductor's side print, and that a storm prints.
use Rattle.std.specs.Prelude.{ℕ, ℤ, List, ◌++◌, codes, decimal, flat_map, length}
use Rattle.std.specs.Fmt.{signed_decimal}
use Rattle.ring_counters.specs.declared.info.CounterInfo.{CounterInfo}
use Rattle.ring_service.specs.declared.conductor.{Work.Work, WorkStop.WorkStop}
use Rattle.ring_service.specs.declared.conductor.WorkStop.TheVariants as work
use Rattle.ring_storm.specs.declared.plan.StormReport.{StormReport}
use Rattle.ring_scenario.specs.Texts.{hex_text, number_text}

-- the text of the reason why the conductor stopped
abbrev pub work_stop_text : WorkStop → List ℕ
work_stop_text work.Limit = codes "limit"
work_stop_text work.Block = codes "block"
work_stop_text work.Unpublished = codes "unpublished"
work_stop_text work.BoardEnd = codes "board-end"

abbrev pub work_text : Work → List ℕ
work_text done =
    codes "work " ++ (decimal done.messages ++ (codes " stopped " ++ (work_stop_text done.stopped ++ codes "\n")))

-- the text of the value that a watcher loaded
abbrev pub value_text : ℤ → List ℕ
value_text value = codes "value " ++ (signed_decimal value ++ codes "\n")

-- the text of a counter in use
abbrev pub counter_text : CounterInfo → List ℕ
counter_text info = codes "counter " ++ (decimal info.id ++ (codes " type " ++ (signed_decimal info.type_id
    ++ (codes " value " ++ (signed_decimal info.value ++ (codes " registration " ++ (decimal info.registration
    ++ (codes " label " ++ (hex_text info.label.items ++ codes "\n")))))))))

-- a line for each counter, and a line with the number of counters
abbrev pub counters_text : List CounterInfo → List ℕ
counters_text infos = flat_map counter_text infos ++ number_text (codes "counters") (length infos)

abbrev pub storm_text : StormReport → List ℕ
storm_text r = codes "storm received " ++ (decimal r.received ++ (codes " left " ++ (decimal r.left
    ++ (codes " seen " ++ (decimal r.seen ++ (codes " live " ++ (decimal r.live ++ (codes " sum "
    ++ (signed_decimal r.sum ++ codes "\n")))))))))
