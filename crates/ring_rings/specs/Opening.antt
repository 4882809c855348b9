-- The first views of the producer and of the consumer of a ring.
use Rattle.std.specs.Prelude.{◌≡◌, ℕ}
use Rattle.ring_table.specs.declared.view.{View.View, Key.Key}
use Rattle.ring_table.specs.Views.{consumer_alone, first_view, without_consumer}
use Rattle.ring_rings.specs.declared.ring.{Ring.Ring, Producer.Producer, Consumer.Consumer}
use Rattle.ring_rings.specs.declared.bodies.Bodies.{Ghosts}
use Rattle.ring_rings.specs.Seats.{consumer_view, view_of, IsConsumerOf, IsProducerOf}

-- a ring of C bytes that begins at a position
abbrev pub key_of : ℕ → ℕ → Key
key_of C start = record { capacity = C; start = start }

-- The view of the producer with all shares. It has no claims, and the start is the greatest end that it has seen.
abbrev pub first_producer : ℕ → ℕ → View
first_producer C start = without_consumer (first_view (key_of C start))

-- the view of the consumer at the start, which took no messages
abbrev pub first_consumer : ℕ → ℕ → View
first_consumer C start = consumer_alone (first_view (key_of C start))

abbrev pub IsFirstProducer : {K B : Type 0} {G : Ghosts B} → Ring K B G → ℕ → ℕ → Producer → Type 0
IsFirstProducer ring C start p = IsProducerOf ring p × (view_of p ≡ first_producer C start)

abbrev pub IsFirstConsumer : {K B : Type 0} {G : Ghosts B} → Ring K B G → ℕ → ℕ → Consumer → Type 0
IsFirstConsumer ring C start c = IsConsumerOf ring c × (consumer_view c ≡ first_consumer C start)
