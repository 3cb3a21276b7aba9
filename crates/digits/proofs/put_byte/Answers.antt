use Rattle.digits.proofs.Places.{stored_byte}
use Rattle.digits.proofs.put_byte.Goals as goal

pub returns : goal.returns
returns c = stored_byte _ _ _ c.requires
