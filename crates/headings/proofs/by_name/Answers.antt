-- `headings::by_name` meets its contract.
use Rattle.headings.proofs.Runs.{runs_ret}
use Rattle.headings.proofs.by_name.Goals as goal

pub returns-in_default : goal.returns-in_default
returns-in_default c = rw (c.in_default.is, c.new.ensures) (record { is = runs_ret _ _ _ })

pub returns-in-Bare : goal.returns-in-Bare
returns-in-Bare c = rw (c.in-Some.is, c.in-Bare.is) c.header.ensures

pub returns-in-Joined : goal.returns-in-Joined
returns-in-Joined c = rw (c.in-Some.is, c.in-Joined.is) c.opener.ensures
