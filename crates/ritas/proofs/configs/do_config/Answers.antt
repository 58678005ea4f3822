use Rattle.cluster_config.specs.declared.config.Config.TheVariants.{Node, Cluster, Submit, Watch}
use Rattle.ritas.proofs.Answering.{of_config}
use Rattle.ritas.proofs.configs.do_config.Goals as goal

pub returns-in-Node-clause-answers : goal.returns-in-Node-clause-answers
returns-in-Node-clause-answers g c =
    of_config _ g.K.Sink.taken c.args.output.now c.run_node.new.output _ _ _ _ _ c.run_node.result c.args.job c.args.config (Node c.in-Node.node) c.in-Node.is c.run_node.ensures.answers

pub returns-in-Cluster-clause-answers : goal.returns-in-Cluster-clause-answers
returns-in-Cluster-clause-answers g c =
    of_config _ g.K.Sink.taken c.args.output.now c.run_cluster.new.output _ _ _ _ _ c.run_cluster.result c.args.job c.args.config (Cluster c.in-Cluster.cluster) c.in-Cluster.is
    c.run_cluster.ensures.answers

pub returns-in-Submit-clause-answers : goal.returns-in-Submit-clause-answers
returns-in-Submit-clause-answers g c =
    of_config _ g.K.Sink.taken c.args.output.now c.run_submit.new.output _ _ _ _ _ c.run_submit.result c.args.job c.args.config (Submit c.in-Submit.submit) c.in-Submit.is
    c.run_submit.ensures.answers

pub returns-in-Watch-clause-answers : goal.returns-in-Watch-clause-answers
returns-in-Watch-clause-answers g c =
    of_config _ g.K.Sink.taken c.args.output.now c.run_watch.new.output _ _ _ _ _ c.run_watch.result c.args.job c.args.config (Watch c.in-Watch.watch) c.in-Watch.is
    c.run_watch.ensures.answers
