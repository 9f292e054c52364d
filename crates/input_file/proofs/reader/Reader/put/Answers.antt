use Rattle.input_file.proofs.ReadingLemmas.{put_in, PutIn}
use Rattle.input_file.proofs.reader.Reader.put.Goals as goal

put-done : (c : goal.In_ok-set_in-in-Some) → PutIn c.args.number c.args.self.now c.set_in.new.self c.in-Some.index c.args.key.now c.args.value.now
put-done c =
    put_in c.args.number c.self.inside.deck c.self.inside.current c.args.self.now c.set_in.new.self c.in-Some.index c.args.key.now c.args.value.now
    c.self.view_is c.in-Some.is c.self.invariant c.in_ok-set_in-in-Some.ensures.ok c.in_ok-set_in-in-Some.ensures.name

pub invariant_of-self-in-Some : goal.invariant_of-self-in-Some
invariant_of-self-in-Some c = rw c.in-Some.is (put-done c).within

pub returns-in_ok-set_in-in-Some : goal.returns-in_ok-set_in-in-Some
returns-in_ok-set_in-in-Some c = rw c.in-Some.is (put-done c).answer
