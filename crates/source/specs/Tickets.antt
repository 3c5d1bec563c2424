-- The events of a spread ticket. Assumes nothing.
use Rattle.std.specs.Prelude.{◌≡◌, ℕ, suc, ◌≤◌, List, [], ◌∷◌, ◌++◌, map, length}
use Rattle.source.specs.declared.event.Leg.{Leg}
use Rattle.source.specs.declared.event.TicketEvent.{TicketEvent}
use Rattle.source.specs.declared.event.TicketEvent.TheVariants as event
use Rattle.source.specs.declared.ticket.Stage.{Stage}
use Rattle.source.specs.declared.ticket.Stage.TheVariants as stage
use Rattle.source.specs.declared.ticket.Ticket.{Ticket}
use Rattle.source.specs.Legs.{live_legs}

-- what is left of a ticket, whose live legs to come are these
abbrev pub ticket_rest : Stage → ℕ → List Leg → List TicketEvent
ticket_rest stage.Header ticket legs = event.Header ticket (length legs) ∷ (map event.Leg legs ++ (event.Done ticket ∷ []))
ticket_rest stage.Legs ticket legs = map event.Leg legs ++ (event.Done ticket ∷ [])
ticket_rest stage.End ticket legs = []

-- a whole ticket: its header, a leg event for each live leg, its end mark
abbrev pub ticket_events : ℕ → ℕ → List Leg → List TicketEvent
ticket_events ticket today legs = ticket_rest stage.Header ticket (live_legs today legs)

-- the supplied legs that were not looked at yet
abbrev pub legs_left : Ticket → List Leg
legs_left t = t.legs.rest.now

abbrev pub legs_among : List TicketEvent → ℕ
legs_among [] = 0
legs_among (event.Header ticket legs ∷ es) = legs_among es
legs_among (event.Leg leg ∷ es) = suc (legs_among es)
legs_among (event.Done ticket ∷ es) = legs_among es

-- the list begins with a header, which counts exactly the legs that follow
abbrev pub HeaderCounts : List TicketEvent → Type 0
HeaderCounts [] = ⊥
HeaderCounts (event.Header ticket legs ∷ es) = legs ≡ legs_among es
HeaderCounts (event.Leg leg ∷ es) = ⊥
HeaderCounts (event.Done ticket ∷ es) = ⊥

-- what the making of a ticket promises
pub record Made (ticket today : ℕ) (legs : List Leg) (t : Ticket) : Type 0 where
  pub few : length legs ≤ 256
  pub events : ticket_rest t.stage t.ticket (live_legs t.legs.today (legs_left t)) ≡ ticket_events ticket today legs
  pub honest : HeaderCounts (ticket_rest t.stage t.ticket (live_legs t.legs.today (legs_left t)))
