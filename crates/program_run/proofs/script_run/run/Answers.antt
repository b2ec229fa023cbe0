use Rattle.program_run.proofs.Alone.{exact}
use Rattle.std.proofs.Common.{rules, w64, SFits}
use Rattle.program_run.proofs.Running.{told-again}
use Rattle.program_run.proofs.Ended.{way, output-kept, transcript-way, usage-way, script-way, fetch-way, file-way, put-way, memory-way, status-way}
use Rattle.program_run.proofs.script_run.run.Goals as goal

pub returns-clause-usage : goal.returns-clause-usage
returns-clause-usage g c = usage-way _ _ _ _ _ _ _ _ _ (way _ _ _ _ _ _ _ _ _ (c.run_words.ensures.ends (g.C.Clock.reading c.args.clock.now) (let fits : SFits w64 c.now-moment.result = search rules in told-again (g.C.Clock.reading c.args.clock.now) c.now-moment.result fits c.now-moment.ensures)))

pub returns-clause-bad_script : goal.returns-clause-bad_script
returns-clause-bad_script g c = script-way _ _ _ _ _ _ _ _ _ (way _ _ _ _ _ _ _ _ _ (c.run_words.ensures.ends (g.C.Clock.reading c.args.clock.now) (let fits : SFits w64 c.now-moment.result = search rules in told-again (g.C.Clock.reading c.args.clock.now) c.now-moment.result fits c.now-moment.ensures)))

pub returns-clause-unreadable : goal.returns-clause-unreadable
returns-clause-unreadable g c = fetch-way _ _ _ _ _ _ _ _ _ (way _ _ _ _ _ _ _ _ _ (c.run_words.ensures.ends (g.C.Clock.reading c.args.clock.now) (let fits : SFits w64 c.now-moment.result = search rules in told-again (g.C.Clock.reading c.args.clock.now) c.now-moment.result fits c.now-moment.ensures)))

pub returns-clause-bad_file : goal.returns-clause-bad_file
returns-clause-bad_file g c = file-way _ _ _ _ _ _ _ _ _ (way _ _ _ _ _ _ _ _ _ (c.run_words.ensures.ends (g.C.Clock.reading c.args.clock.now) (let fits : SFits w64 c.now-moment.result = search rules in told-again (g.C.Clock.reading c.args.clock.now) c.now-moment.result fits c.now-moment.ensures)))

pub returns-clause-refused_put : goal.returns-clause-refused_put
returns-clause-refused_put g c = put-way _ _ _ _ _ _ _ _ _ (way _ _ _ _ _ _ _ _ _ (c.run_words.ensures.ends (g.C.Clock.reading c.args.clock.now) (let fits : SFits w64 c.now-moment.result = search rules in told-again (g.C.Clock.reading c.args.clock.now) c.now-moment.result fits c.now-moment.ensures)))

pub returns-clause-memory : goal.returns-clause-memory
returns-clause-memory g c = memory-way _ _ _ _ _ _ _ _ _ (way _ _ _ _ _ _ _ _ _ (c.run_words.ensures.ends (g.C.Clock.reading c.args.clock.now) (let fits : SFits w64 c.now-moment.result = search rules in told-again (g.C.Clock.reading c.args.clock.now) c.now-moment.result fits c.now-moment.ensures)))

pub returns-clause-statuses : goal.returns-clause-statuses
returns-clause-statuses g c = status-way _ _ _ _ _ _ _ _ _ (way _ _ _ _ _ _ _ _ _ (c.run_words.ensures.ends (g.C.Clock.reading c.args.clock.now) (let fits : SFits w64 c.now-moment.result = search rules in told-again (g.C.Clock.reading c.args.clock.now) c.now-moment.result fits c.now-moment.ensures)))

pub returns-clause-transcript : goal.returns-clause-transcript
returns-clause-transcript g c = transcript-way _ _ _ _ _ _ _ _ _ (way _ _ _ _ _ _ _ _ _ (c.run_words.ensures.ends (g.C.Clock.reading c.args.clock.now) (let fits : SFits w64 c.now-moment.result = search rules in told-again (g.C.Clock.reading c.args.clock.now) c.now-moment.result fits c.now-moment.ensures)))

pub returns-clause-complete : goal.returns-clause-complete
returns-clause-complete g c = λ held told moment u. exact c.runs_alone_are_sole.ensures.grow c.runs_alone_are_sole.ensures.blocks _ _ _ _ _ held told moment _ _ _ _ u
    (c.run_words.ensures.ends (g.C.Clock.reading c.args.clock.now) (let fits : SFits w64 c.now-moment.result = search rules in told-again (g.C.Clock.reading c.args.clock.now) c.now-moment.result fits c.now-moment.ensures))

pub returns-clause-output_kept : goal.returns-clause-output_kept
returns-clause-output_kept g c = output-kept _ _ _ _ _ _ _ _ _ (c.run_words.ensures.ends (g.C.Clock.reading c.args.clock.now) (let fits : SFits w64 c.now-moment.result = search rules in told-again (g.C.Clock.reading c.args.clock.now) c.now-moment.result fits c.now-moment.ensures))
