-- How events print. Assumes nothing.
use Rattle.std.specs.Prelude.{ℕ, List, ◌++◌, codes, decimal}
use Rattle.std.specs.Fmt.{signed_decimal}
use Rattle.source.specs.declared.event.Quote.{Quote}
use Rattle.source.specs.declared.event.Leg.{Leg}
use Rattle.source.specs.declared.event.TicketEvent.{TicketEvent}
use Rattle.source.specs.declared.event.TicketEvent.TheVariants as event

-- the instrument, then bid and ask in ten-thousandths
abbrev pub quote_text : Quote → List ℕ
quote_text q =
    codes "instrument " ++ (decimal q.instrument ++ (codes ": bid " ++ (signed_decimal q.bid ++ (codes ", ask " ++ signed_decimal q.ask))))

-- the quantity with its sign, the instrument, and the expiry
abbrev pub leg_text : Leg → List ℕ
leg_text l =
    signed_decimal l.quantity ++ (codes " of instrument " ++ (decimal l.instrument ++ (codes ", expiry on day " ++ decimal l.expiry)))

-- a header with its count, a leg, or an end mark
abbrev pub ticket_event_text : TicketEvent → List ℕ
ticket_event_text (event.Header ticket legs) = codes "ticket " ++ (decimal ticket ++ (codes ": " ++ (decimal legs ++ codes " legs follow")))
ticket_event_text (event.Leg leg) = codes "leg: " ++ leg_text leg
ticket_event_text (event.Done ticket) = codes "ticket " ++ (decimal ticket ++ codes ": complete")
