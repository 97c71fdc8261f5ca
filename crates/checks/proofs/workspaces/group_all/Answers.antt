use Rattle.checks.proofs.workspaces.group_all.Goals as goal

-- the names of a row are those that its group goes by
pub returns : goal.returns
returns c = record { versions = rw c.as_slice.ensures at c.in_ok-versions.ensures; runs = rw c.as_slice-2.ensures at c.in_ok-runs.ensures; retentions = rw c.as_slice-3.ensures at c.in_ok-retentions.ensures }
