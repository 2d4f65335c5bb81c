-- The definitions of Events: reading a trace and one event at both sides of an edge, by computation: a wrong definition shows here as a wrong value.
-- Assumes nothing.
use Rattle.std.specs.Prelude.{◌≡◌, refl, [], ◌∷◌, Err}
use Rattle.model.specs.Events.{trace_of, event_read, trace}
use Rattle.model.specs.declared.refusal.Refusal.{Refusal}
use Rattle.model.specs.declared.event.Event.{Event}
use Rattle.model.specs.declared.call.Stop.{Stop}
use Rattle.model.specs.Answers.{refused_at}

-- the offset of a broken record is its kind byte's, and the events before it stand
trace_edges :
    trace_of 0 (1 ∷ 3 ∷ 2 ∷ 5 ∷ 0 ∷ 0 ∷ 0 ∷ 2 ∷ 3 ∷ 1 ∷ [])
    ≡ record { events = Event.Step ∷ Event.WordIn 2 5 ∷ Event.Tick ∷ []; close = Err (Stop.Broken (refused_at Refusal.EventShort 8)) }
unfolding event_read trace
trace_edges = refl

-- no kind byte is 12, a kind that is none is 11, whatever follows
front_edges :
    (event_read [] ≡ Err Refusal.EventShort)
    × (event_read (0 ∷ []) ≡ Err Refusal.EventKind)
    × (event_read (3 ∷ []) ≡ Err Refusal.EventShort)
    × (event_read (4 ∷ 3 ∷ []) ≡ Err Refusal.EventKind)
unfolding event_read
front_edges = (refl, refl, refl, refl)
