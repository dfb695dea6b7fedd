mod Queues
mod Settled
