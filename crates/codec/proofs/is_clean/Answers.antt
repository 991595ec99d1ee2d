-- The kind is the first byte behind the data of the page.
use native.Mathlib.Omega.{arith}
use Rattle.codec.proofs.Offsets.{page_in_lem}
use Rattle.codec.proofs.is_clean.Goals as goal

pub overflow_cast-byte : goal.overflow_cast-byte
overflow_cast-byte c = omega (arith, c.byte.ensures.1)

pub returns : goal.returns
returns c =
    let a = c.args in
    rw ((page_in_lem a.g a.chips.now a.c a.p c.requires.2).kind, c.is_clean_kind.ensures, c.byte.ensures.0, c.page_offset.ensures.0)
