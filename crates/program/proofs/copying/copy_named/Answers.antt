use Rattle.program.proofs.CopyLemmas.{one_copied}
use Rattle.program.proofs.copying.copy_named.Goals as goal

pub returns-in-Ok-copy : goal.returns-in-Ok-copy
returns-in-Ok-copy g c =
    let rows = g.K.Keep.rows in
    let copy = c.copy.ensures in
    record {
      unchanged = copy.source;
      so_far = copy.lasts.so_far;
      shield = copy.lasts.shield;
      kept = λ clean sound clean_source sound_source. copy.lasts.kept clean sound (clean_source, sound_source);
      keys = λ clean sound clean_source sound_source. copy.lasts.keys clean sound;
      model = λ clean sound clean_source sound_source.
          one_copied (rows c.args.from.now) (rows c.args.to.now) (rows c.copy.new.to) c.in-Ok.org c.args.name.now c.in-Ok-copy.field-0 c.in-Ok.ensures.ok
          (c.in-Ok-copy.ensures.own clean sound clean_source sound_source) (copy.others clean sound clean_source sound_source);
    }
