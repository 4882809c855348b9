mod BatchLemmas
mod ProducerLemmas
mod ConsumerLemmas
mod EndingLemmas
pub mod HandleValues
mod ReceiverLemmas
mod RecoveringLemmas
pub mod Values
mod WritingLemmas
