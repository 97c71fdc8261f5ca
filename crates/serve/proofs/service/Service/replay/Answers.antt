use Rattle.serve.specs.Asks.{unattributed, operator}
use Rattle.serve.proofs.RunLemmas.{replies_given, lists_given, orgs_given, rows_by}
use Rattle.serve.proofs.service.Service.replay.Goals as goal
use Rattle.serve.proofs.AbsentLemmas.{replies_look_absent, each_reply}
use Rattle.serve.proofs.BookLemmas.{custody_of_run}

pub returns-clause-readings : goal.returns-clause-readings
returns-clause-readings g c = λ clean sound. let ran = c.run_all.ensures.ran clean sound in (ran.1.asked, ran.1.are)

pub returns-clause-isolation : goal.returns-clause-isolation
returns-clause-isolation g c = λ clean sound.
    orgs_given c.args.steps.now c.run_all.new.self.taken (g.K.Keep.rows c.args.self.now.keep) (g.K.Keep.rows c.run_all.new.self.keep) c.run_all.result (c.run_all.ensures.ran clean sound) c.run_all.ensures.all

pub returns-clause-unattributed : goal.returns-clause-unattributed
returns-clause-unattributed g c = λ clean sound.
    replies_given c.args.steps.now c.run_all.new.self.taken (g.K.Keep.rows c.args.self.now.keep) (g.K.Keep.rows c.run_all.new.self.keep) c.run_all.result (c.run_all.ensures.ran clean sound) c.run_all.ensures.all unattributed

pub returns-clause-lists : goal.returns-clause-lists
returns-clause-lists g c = λ clean sound.
    replies_given c.args.steps.now c.run_all.new.self.taken (g.K.Keep.rows c.args.self.now.keep) (g.K.Keep.rows c.run_all.new.self.keep) c.run_all.result (c.run_all.ensures.ran clean sound) c.run_all.ensures.all operator

pub returns-clause-lists_reported : goal.returns-clause-lists_reported
returns-clause-lists_reported g c = λ clean sound.
    lists_given c.args.steps.now c.run_all.new.self.taken (g.K.Keep.rows c.args.self.now.keep) (g.K.Keep.rows c.run_all.new.self.keep) c.run_all.result (c.run_all.ensures.ran clean sound) c.run_all.ensures.all

pub returns-clause-rows : goal.returns-clause-rows
returns-clause-rows g c = λ clean sound asked are org.
    let ran = c.run_all.ensures.ran clean sound in
    rows_by _ (g.K.Keep.rows c.args.self.now.keep) (g.K.Keep.rows c.run_all.new.self.keep) ran.0 ran.1 asked are org

pub returns-clause-lock_periods : goal.returns-clause-lock_periods
returns-clause-lock_periods g c = λ clean sound asked are.
    let ran = c.run_all.ensures.ran clean sound in
    (custody_of_run _ (g.K.Keep.rows c.args.self.now.keep) (g.K.Keep.rows c.run_all.new.self.keep) ran.0 ran.1 (c.records_are_lawful.ensures (c.run_all.ensures.lasts.so_far clean) sound) asked are).lock_periods

pub returns-clause-run_periods : goal.returns-clause-run_periods
returns-clause-run_periods g c = λ clean sound asked are.
    let ran = c.run_all.ensures.ran clean sound in
    (custody_of_run _ (g.K.Keep.rows c.args.self.now.keep) (g.K.Keep.rows c.run_all.new.self.keep) ran.0 ran.1 (c.records_are_lawful.ensures (c.run_all.ensures.lasts.so_far clean) sound) asked are).run_periods

pub returns-clause-unheld : goal.returns-clause-unheld
returns-clause-unheld g c = λ clean sound asked are.
    let ran = c.run_all.ensures.ran clean sound in
    (custody_of_run _ (g.K.Keep.rows c.args.self.now.keep) (g.K.Keep.rows c.run_all.new.self.keep) ran.0 ran.1 (c.records_are_lawful.ensures (c.run_all.ensures.lasts.so_far clean) sound) asked are).unheld

pub returns-clause-lock_ends : goal.returns-clause-lock_ends
returns-clause-lock_ends g c = λ clean sound asked are.
    let ran = c.run_all.ensures.ran clean sound in
    (custody_of_run _ (g.K.Keep.rows c.args.self.now.keep) (g.K.Keep.rows c.run_all.new.self.keep) ran.0 ran.1 (c.records_are_lawful.ensures (c.run_all.ensures.lasts.so_far clean) sound) asked are).lock_ends

pub returns-clause-one_active : goal.returns-clause-one_active
returns-clause-one_active g c = λ clean sound asked are.
    let ran = c.run_all.ensures.ran clean sound in
    (custody_of_run _ (g.K.Keep.rows c.args.self.now.keep) (g.K.Keep.rows c.run_all.new.self.keep) ran.0 ran.1 (c.records_are_lawful.ensures (c.run_all.ensures.lasts.so_far clean) sound) asked are).one_active

pub returns-clause-starts_rise : goal.returns-clause-starts_rise
returns-clause-starts_rise g c = λ clean sound asked are.
    let ran = c.run_all.ensures.ran clean sound in
    (custody_of_run _ (g.K.Keep.rows c.args.self.now.keep) (g.K.Keep.rows c.run_all.new.self.keep) ran.0 ran.1 (c.records_are_lawful.ensures (c.run_all.ensures.lasts.so_far clean) sound) asked are).starts_rise

pub returns-clause-repeats : goal.returns-clause-repeats
returns-clause-repeats g c = λ clean sound asked are.
    let ran = c.run_all.ensures.ran clean sound in
    (custody_of_run _ (g.K.Keep.rows c.args.self.now.keep) (g.K.Keep.rows c.run_all.new.self.keep) ran.0 ran.1 (c.records_are_lawful.ensures (c.run_all.ensures.lasts.so_far clean) sound) asked are).repeats

pub returns-clause-done_once : goal.returns-clause-done_once
returns-clause-done_once g c = λ clean sound asked are.
    let ran = c.run_all.ensures.ran clean sound in
    (custody_of_run _ (g.K.Keep.rows c.args.self.now.keep) (g.K.Keep.rows c.run_all.new.self.keep) ran.0 ran.1 (c.records_are_lawful.ensures (c.run_all.ensures.lasts.so_far clean) sound) asked are).done_once

pub returns-clause-absent : goal.returns-clause-absent
returns-clause-absent g c = λ clean sound.
    let old = g.K.Keep.rows c.args.self.now.keep in
    let new = g.K.Keep.rows c.run_all.new.self.keep in
    each_reply _ c.args.steps.now c.run_all.new.self.taken old new c.run_all.result (λ texts asked are own. replies_look_absent c.args.steps.now old new texts asked are own) (c.run_all.ensures.ran clean sound) c.run_all.ensures.all
