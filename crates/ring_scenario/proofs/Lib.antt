mod CuttingLemmas
mod EndLemmas
mod FaultLemmas
mod NameLemmas
mod NumberLemmas
mod PrinterLemmas
mod RunLemmas
mod ServiceLemmas
