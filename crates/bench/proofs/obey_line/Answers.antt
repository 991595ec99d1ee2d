-- Letter and number of a command stand in its line, and so in the buffer.
use Rattle.std.proofs.Common.{ℕ, ◌+◌, ◌-◌, ◌≤◌, ◌≡◌, List, take, Some, arith}
use mathlib.Core.Path.{sym, ◌∙◌}
use lib.ListN.{length-take}
use Rattle.commands.specs.declared.Command.{Command}
use Rattle.commands.specs.Parsing.{command_of}
use Rattle.commands.proofs.Theorems.{number_within}
use Rattle.bench.proofs.obey_line.Goals as goal

-- of what parse gives for the first n bytes
within : (buffer : List ℕ) (n : ℕ) (c : Command) → n ≤ 11 → command_of (take n buffer) ≡ Some c → c.digits + 2 ≤ 11
within buffer n c h e =
    let w = number_within (take n buffer) c e in
    omega (arith, length-take n buffer)

pub overflow_add-end : goal.overflow_add-end
overflow_add-end g c =
    let w = within c.args.buffer.now (c.args.n - 0) c.in-Some.c (omega arith) (sym c.parse.ensures ∙ c.in-Some.is) in
    omega (arith, w)

pub slice_bounds-say-end : goal.slice_bounds-say-end
slice_bounds-say-end g c =
    let w = within c.args.buffer.now (c.args.n - 0) c.in-Some.c (omega arith) (sym c.parse.ensures ∙ c.in-Some.is) in
    omega (arith, w)
