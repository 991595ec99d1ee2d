-- Document 02, 1, "Tickets inside the pages": a ticket and its rules.
use Rattle.std.specs.Prelude.{ℕ, Bool, not, cond, ◌&&◌, ◌||◌, List, get_or, leb, eqb, Option, Some, None}
use Rattle.octets.specs.Number.{number}
use Rattle.octets.specs.Units.{part}
use Rattle.rules.specs.declared.Ticket.{Ticket}
use Rattle.rules.specs.declared.Weight.{Weight}

-- "A ticket is a record of 16 bytes"
abbrev pub ticket_bytes : ℕ
ticket_bytes = 16

-- "kind (0 empty, 1 weight, 2 withdrawal), a zero byte, bag (2 bytes), lot (4), gross grams (4), tare grams (4)"
unfoldable pub ticket_of : List ℕ → Ticket
ticket_of xs =
    record {
      kind = get_or xs 0 0;
      blank = get_or xs 1 0;
      bag = number (part 2 2 xs);
      lot = number (part 4 4 xs);
      gross = number (part 8 4 xs);
      tare = number (part 12 4 xs);
    }

-- "0 empty"
abbrev pub is_empty : Ticket → Bool
is_empty t = eqb t.kind 0

-- "1 weight"
abbrev pub is_weight : Ticket → Bool
is_weight t = eqb t.kind 1

-- "2 withdrawal"
abbrev pub is_withdrawal : Ticket → Bool
is_withdrawal t = eqb t.kind 2

-- "a withdrawal has both weights zero"
abbrev pub weights_right : Ticket → Bool
weights_right t = not (is_withdrawal t) || (eqb t.gross 0 && eqb t.tare 0)

-- the rules of a ticket that is added, or found before the log's end: "An empty ticket .. can't be added"; "a zero byte"; "tare is
-- never above gross"
unfoldable pub ticket_sound : Ticket → Bool
ticket_sound t = (is_weight t || is_withdrawal t) && eqb t.blank 0 && weights_right t && leb t.tare t.gross

-- it is for this lot and bag
abbrev pub is_for : ℕ → ℕ → Ticket → Bool
is_for lot bag t = eqb t.lot lot && eqb t.bag bag

-- "the store gives the one standing if it is a weight, else none"
abbrev pub weight_of : Ticket → Option Weight
weight_of t = cond (is_weight t) (Some (record { gross = t.gross; tare = t.tare })) None
