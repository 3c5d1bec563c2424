use Rattle.std.proofs.Common.{◌≡◌, ℕ, ◌+◌, ◌≤◌, ◌<◌, [], ◌∷◌, List, length, decimal, arith, subst, sym}
use Rattle.std.proofs.lemmas.Fmt.{decimal_digit}
use Rattle.script.specs.Written.{Writes}
use Rattle.script.proofs.Pastes.{length-one}
use Rattle.script.proofs.cursor.Cursor.number.Goals as goal

pub byte-requires : goal.byte-requires
byte-requires c = omega (arith, length-one c.args.n c.if-n-lt10.true)

pub returns-then-n-lt10 : goal.returns-then-n-lt10
returns-then-n-lt10 c = subst (Writes c.args.self.now c.byte.new.self) (sym (decimal_digit c.args.n c.if-n-lt10.true)) c.byte.ensures
