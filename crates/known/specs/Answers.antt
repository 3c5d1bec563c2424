-- Known answers of channels and tickets, in one list. Assumes nothing.
use Rattle.std.specs.Prelude.{List, [], ◌∷◌, ◌++◌, ℕ, pos, length}
use Rattle.ledger.specs.Cases.{Case, Holds, known_cases}
use Rattle.source.specs.declared.event.Leg.{Leg}
use Rattle.source.specs.declared.event.TicketEvent.{TicketEvent}
use Rattle.source.specs.declared.event.TicketEvent.TheVariants as event
use Rattle.source.specs.Tickets.{ticket_events}

-- a ticket on a day: its number, the day and its legs; its events, and how many are announced
abbrev pub on_ticket : ℕ → ℕ → List Leg → List TicketEvent → ℕ → Case
on_ticket ticket today legs events announced =
    record {
      Kind = List TicketEvent × ℕ;
      yielded = (ticket_events ticket today legs, length (ticket_events ticket today legs));
      known = (events, announced);
    }

-- one bought unit of an instrument, by the instrument and its expiry
abbrev pub leg : ℕ → ℕ → Leg
leg instrument expiry = record { instrument = instrument; quantity = pos 1; expiry = expiry }

abbrev pub ticket_cases : List Case
ticket_cases =
    -- of four legs the third expired the day before
    on_ticket 7 100
    (leg 1 100 ∷ leg 2 101 ∷ leg 3 99 ∷ leg 4 101 ∷ [])
    (event.Header 7 3 ∷ event.Leg (leg 1 100) ∷ event.Leg (leg 2 101) ∷ event.Leg (leg 4 101) ∷ event.Done 7 ∷ [])
    5
    -- the only leg did
    ∷ on_ticket 8 100
    (leg 1 99 ∷ [])
    (event.Header 8 0 ∷ event.Done 8 ∷ [])
    2
    ∷ []

abbrev pub KnownAnswers : Type 0
KnownAnswers = Holds (known_cases ++ ticket_cases)
