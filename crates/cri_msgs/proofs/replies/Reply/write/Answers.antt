use Rattle.cri_msgs.proofs.WrittenReply.{few_bytes, reads, some_bytes}
use Rattle.cri_msgs.proofs.replies.Reply.write.Goals as goal

pub returns-clause-reads : goal.returns-clause-reads
returns-clause-reads c = λ known. reads c.args.version c.args.self.now _ c.to_vec.result
    c.in_ok-tree.ensures.tree c.in_ok-tree.ensures.fit c.to_vec.ensures.utf8 c.to_vec.ensures.reads_back known

pub returns-clause-some : goal.returns-clause-some
returns-clause-some c = some_bytes c.args.version c.args.self.now _ c.to_vec.result c.in_ok-tree.ensures.tree
    c.to_vec.ensures.text

pub returns-clause-short : goal.returns-clause-short
returns-clause-short c = few_bytes c.args.version c.args.self.now _ c.to_vec.result c.in_ok-tree.ensures.tree
    c.in_ok-tree.ensures.number c.in_ok-tree.ensures.fit c.to_vec.ensures.text
