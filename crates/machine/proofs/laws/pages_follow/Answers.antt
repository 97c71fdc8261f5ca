use Rattle.machine.proofs.PageLemmas as lemma
use Rattle.machine.proofs.WalkLemmas as walk
use Rattle.machine.proofs.laws.pages_follow.Goals as goal

pub returns-clause-workspaces : goal.returns-clause-workspaces
returns-clause-workspaces c = lemma.workspace_pages

pub returns-clause-versions : goal.returns-clause-versions
returns-clause-versions c = lemma.version_pages

pub returns-clause-runs : goal.returns-clause-runs
returns-clause-runs c = lemma.run_pages

pub returns-clause-all_workspaces : goal.returns-clause-all_workspaces
returns-clause-all_workspaces c = walk.workspaces_are_shown

pub returns-clause-all_versions : goal.returns-clause-all_versions
returns-clause-all_versions c = walk.versions_are_shown

pub returns-clause-all_runs : goal.returns-clause-all_runs
returns-clause-all_runs c = walk.runs_are_shown
